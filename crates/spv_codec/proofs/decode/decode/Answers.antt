use Rattle.std.proofs.Common.{◌≡◌, ◌+◌, ◌*◌, length, sym, ◌∙◌, ap, inl, inr, arith, length-append}
use Rattle.std.proofs.lemmas.Result.{err_from_is_err_and}
use Rattle.spv_words.specs.Words.{words_bytes}
use Rattle.spv_words.proofs.StringLemmas.{length-words_bytes}
use Rattle.spv_codec.proofs.FramingLemmas.{Opened-read, IsSpirv-Opens, IsFramingError-body, IsFramingFault-cut}
use Rattle.spv_codec.proofs.decode.decode.Goals as goal

pub split_header-requires : goal.split_header-requires
split_header-requires c =
    let has = c.in_ok-order.ensures.words in
    let words = c.in_ok-order.words.items in
    let len : length c.args.bytes.now ≡ 4 * length words + length has.rest =
    ap length has.spelled ∙ omega (arith, length-append (words_bytes c.in_ok-order.order words) has.rest, length-words_bytes c.in_ok-order.order words) in
    omega (arith, len, has.short, ap length c.deref.ensures.value)

pub returns-in-Some-clause-fault : goal.returns-in-Some-clause-fault
returns-in-Some-clause-fault c =
    let header = c.split_header.result.0 in
    let body = c.split_header.result.1.now in
    let opened = Opened-read c.args.bytes.now c.in_ok-order.order c.in_ok-order.words.items c.deref.result.now _ header.version header.generator header.bound header.schema body c.in_ok-order.ensures.words c.deref.ensures.value c.split_header.ensures.in_range c.split_header.ensures.split in
    inr (inr (inl (record {
      order = c.in_ok-order.order;
      version = header.version;
      generator = header.generator;
      bound = header.bound;
      schema = header.schema;
      body = body;
      rest = opened.rest;
      opens = opened.opens;
      due = sym c.fault.ensures ∙ c.in-Some.is;
    })))

pub returns-in_err-insts-clause-fault : goal.returns-in_err-insts-clause-fault
returns-in_err-insts-clause-fault c =
    let header = c.split_header.result.0 in
    let body = c.split_header.result.1.now in
    let opened = Opened-read c.args.bytes.now c.in_ok-order.order c.in_ok-order.words.items c.deref.result.now _ header.version header.generator header.bound header.schema body c.in_ok-order.ensures.words c.deref.ensures.value c.split_header.ensures.in_range c.split_header.ensures.split in
    let p = err_from_is_err_and c.from_residual-in_err-insts.result c.from_residual-in_err-insts.ensures.1 in
    rw (p.1, p.2)
    (IsFramingError-body c.args.bytes.now c.in_ok-order.order header.version header.generator header.bound header.schema body opened.rest _ opened.opens (sym c.in_default.ensures) c.in_err-insts.ensures.fault)

pub returns-then-bytes-ne0-clause-fault : goal.returns-then-bytes-ne0-clause-fault
returns-then-bytes-ne0-clause-fault c =
    let header = c.split_header.result.0 in
    let body = c.split_header.result.1.now in
    let opened = Opened-read c.args.bytes.now c.in_ok-order.order c.in_ok-order.words.items c.deref.result.now _ header.version header.generator header.bound header.schema body c.in_ok-order.ensures.words c.deref.ensures.value c.split_header.ensures.in_range c.split_header.ensures.split in
    let counted : c.len.result ≡ 5 + length body =
    omega (arith, c.len.ensures, c.deref.ensures.len, ap length c.split_header.ensures.split) in
    IsFramingFault-cut c.args.bytes.now c.in_ok-order.order header.version header.generator header.bound header.schema body c.in_ok-insts.insts c.len.result opened (sym c.in_default.ensures) c.in_ok-insts.ensures.spelled c.in_ok-insts.ensures.right c.if-bytes-ne0.true counted

pub returns-clause-module : goal.returns-clause-module
returns-clause-module c =
    let header = c.split_header.result.0 in
    let body = c.split_header.result.1.now in
    let opened = Opened-read c.args.bytes.now c.in_ok-order.order c.in_ok-order.words.items c.deref.result.now _ header.version header.generator header.bound header.schema body c.in_ok-order.ensures.words c.deref.ensures.value c.split_header.ensures.in_range c.split_header.ensures.split in
    IsSpirv-Opens c.args.bytes.now c.in_ok-order.order header.version header.generator header.bound header.schema body opened.rest c.in_ok-insts.insts opened.opens (sym c.in_default.ensures) c.in_ok-insts.ensures.spelled c.in_ok-insts.ensures.right c.if-bytes-ne0.false
