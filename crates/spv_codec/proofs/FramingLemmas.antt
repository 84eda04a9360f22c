-- What the words of a header say of the bytes.
use Rattle.std.proofs.Common.{◌≡◌, ◌≢◌, ℕ, zero, suc, ◌+◌, ◌*◌, ◌%◌, ◌^◌, ◌<◌, Bool, true, false, not, List, [], ◌∷◌, ◌++◌, length, take, get_or, All, Some, None, sym, ◌∙◌, ap, refl, inl, inr, arith, append_assoc, append-nil, length-append, subst}
use Rattle.std.specs.Prelude.{◌==◌, if◌then◌else◌}
use Rattle.std.specs.Str.{bytes_eq}
use Rattle.std.proofs.lemmas.Slice.Eq.{bytes_eq-Decides}
use Rattle.std.proofs.lemmas.List.{take_at}
use Rattle.std.proofs.lemmas.Bool.{eqb-true}
use Rattle.ports.specs.declared.faults.SpvError.{SpvError}
use Rattle.ports.specs.declared.faults.SpvError.TheVariants.{NoMemory, Fault}
use Rattle.spv_words.specs.declared.words.Order.{Order}
use Rattle.spv_words.specs.declared.words.Order.TheVariants.{Little, Big}
use Rattle.spv_words.specs.declared.words.TheConstants.{MAGIC}
use Rattle.spv_words.specs.Words.{word_bytes, words_bytes}
use Rattle.spv_words.specs.Feeds.{magic_order}
use Rattle.spv_words.proofs.StringLaws.{one-word_list}
use Rattle.spv_words.proofs.StringLemmas.{length-word_bytes, length-words_bytes}
use Rattle.spv_codec.specs.declared.module.RawInst.{RawInst}
use Rattle.spv_codec.specs.Instructions.{spellings, AllFit, IsInstError}
use Rattle.spv_codec.specs.Framing.{fault_at, is_version, is_bound, header_fault, IsSpirv, IsFramingFault, IsFramingError, HasWords, Opens}

-- the four bytes that tell the order are those of the magic number
pub magic_order-Some : (bytes : List ℕ) (order : Order) → magic_order bytes ≡ Some order → bytes ≡ word_bytes order MAGIC
magic_order-Some bytes order is = by_little (bytes_eq bytes (word_bytes Little MAGIC)) refl is
  where
    by_big : (b : Bool) → bytes_eq bytes (word_bytes Big MAGIC) ≡ b → (if b then Some Big else None) ≡ Some order → bytes ≡ word_bytes order MAGIC
    by_big true e is = let same : order ≡ Big = cc in rw same ((bytes_eq-Decides bytes (word_bytes Big MAGIC)).0 e)
    by_big false e is = cc

    by_little : (b : Bool) → bytes_eq bytes (word_bytes Little MAGIC) ≡ b
        → (if b then Some Little else (if bytes_eq bytes (word_bytes Big MAGIC) then Some Big else None)) ≡ Some order → bytes ≡ word_bytes order MAGIC
    by_little true e is = let same : order ≡ Little = cc in rw same ((bytes_eq-Decides bytes (word_bytes Little MAGIC)).0 e)
    by_little false e is = by_big (bytes_eq bytes (word_bytes Big MAGIC)) refl is

-- words of equal bytes are equal
pub word_bytes-same : (order : Order) (word other : ℕ) → word < 2 ^ 32 → other < 2 ^ 32 → word_bytes order word ≡ word_bytes order other → word ≡ other
word_bytes-same order word other fits other_fits same =
    let one = one-word_list order (word_bytes order word ++ []) (word ∷ []) (other ∷ [])
    (record { spelled = refl; in_range = λ k d lt. single word fits k d lt })
    (record { spelled = ap (λ bs. bs ++ []) same; in_range = λ k d lt. single other other_fits k d lt }) in
    cc
  where
    single : (w : ℕ) → w < 2 ^ 32 → (k : ℕ) (d : ℕ) → k < length (w ∷ []) → get_or (w ∷ []) k d < 2 ^ 32
    single w fits zero d lt = fits
    single w fits (suc k) d lt = absurd (omega arith)

-- the words of bytes that have a header
pub Opens-HasWords : (bytes : List ℕ) (order : Order) (words : List ℕ) (first version generator bound schema : ℕ) (body : List ℕ)
    → (has : HasWords bytes order words) → All (λ word. word < 2 ^ 32) words → words ≡ first ∷ version ∷ generator ∷ bound ∷ schema ∷ body
    → Opens bytes order version generator bound schema body has.rest
Opens-HasWords bytes order words first version generator bound schema body has fit split =
    let behind = version ∷ generator ∷ bound ∷ schema ∷ body in
    let spelled : bytes ≡ words_bytes order (first ∷ behind) ++ has.rest = has.spelled ∙ ap (λ ws. words_bytes order ws ++ has.rest) split in
    let Fit : List ℕ → Type 0 = λ ws. All (λ word. word < 2 ^ 32) ws in
    let in_range : Fit (first ∷ behind) = subst Fit split fit in
    let front : take 4 bytes ≡ word_bytes order first =
    ap (take 4) (spelled ∙ append_assoc (word_bytes order first) (words_bytes order behind) has.rest)
    ∙ take_at (word_bytes order first) (words_bytes order behind ++ has.rest) 4 (length-word_bytes order first) in
    let magic : first ≡ MAGIC =
    word_bytes-same order first MAGIC (in_range 0 0 (omega arith)) (omega arith) (sym front ∙ magic_order-Some (take 4 bytes) order has.magic) in
    record {
      spelled = spelled ∙ ap (λ w. words_bytes order (w ∷ behind) ++ has.rest) magic;
      in_range = let At : ℕ → Type 0 = λ w. Fit (w ∷ behind) in subst At magic in_range;
      short = has.short;
    }

-- the header was split off the words that were read
pub record Opened (bytes : List ℕ) (order : Order) (version generator bound schema : ℕ) (body : List ℕ) : Type 0 where
  pub rest : List ℕ
  pub opens : Opens bytes order version generator bound schema body rest

pub Opened-read : (bytes : List ℕ) (order : Order) (read words : List ℕ) (first version generator bound schema : ℕ) (body : List ℕ)
    → HasWords bytes order read → words ≡ read → All (λ word. word < 2 ^ 32) words → words ≡ first ∷ version ∷ generator ∷ bound ∷ schema ∷ body
    → Opened bytes order version generator bound schema body
Opened-read bytes order read words first version generator bound schema body has same fit split =
    let Has : List ℕ → Type 0 = λ ws. HasWords bytes order ws in
    let has_words = subst Has (sym same) has in
    record {
      rest = has_words.rest;
      opens = Opens-HasWords bytes order words first version generator bound schema body has_words fit split;
    }

-- a right header has the schema 0
pub header_fault-schema : (version bound schema : ℕ) → header_fault version bound schema ≡ None → schema ≡ 0
header_fault-schema version bound schema none = by_version (is_version version) (is_bound bound) (schema == 0) refl none
  where
    by_version : (v b z : Bool) → (schema == 0) ≡ z
        → (if not v then Some (fault_at 4 1) else (if not b then Some (fault_at 6 3) else (if z then None else Some (fault_at 5 4)))) ≡ None → schema ≡ 0
    by_version false b z e n = cc
    by_version true false z e n = cc
    by_version true true false e n = cc
    by_version true true true e n = eqb-true schema 0 e

-- how many bytes there are
pub length-Opens : (bytes : List ℕ) (order : Order) (version generator bound schema : ℕ) (body rest : List ℕ)
    → Opens bytes order version generator bound schema body rest → length bytes ≡ 20 + 4 * length body + length rest
length-Opens bytes order version generator bound schema body rest opens =
    let words = MAGIC ∷ version ∷ generator ∷ bound ∷ schema ∷ body in
    omega (arith, ap length opens.spelled, length-append (words_bytes order words) rest, length-words_bytes order words)

-- a right header and right instructions with nothing behind them are a module
pub IsSpirv-Opens : (bytes : List ℕ) (order : Order) (version generator bound schema : ℕ) (body rest : List ℕ) (insts : List RawInst)
    → Opens bytes order version generator bound schema body rest → header_fault version bound schema ≡ None → body ≡ spellings insts → AllFit [] insts
    → length bytes % 4 ≡ 0
    → IsSpirv bytes (record { order = order; version = version; generator = generator; bound = bound; insts = insts })
IsSpirv-Opens bytes order version generator bound schema body rest insts opens header spelled fit even =
    let zero_schema = header_fault-schema version bound schema header in
    let len = length-Opens bytes order version generator bound schema body rest opens in
    let none : length rest ≡ 0 = omega (arith, len, opens.short) in
    record {
      spelled = opens.spelled
          ∙ (ap (λ r. words_bytes order (MAGIC ∷ version ∷ generator ∷ bound ∷ schema ∷ body) ++ r) (nothing rest none)
          ∙ (append-nil (words_bytes order (MAGIC ∷ version ∷ generator ∷ bound ∷ schema ∷ body))
          ∙ (ap (λ s. words_bytes order (MAGIC ∷ version ∷ generator ∷ bound ∷ s ∷ body)) zero_schema
          ∙ ap (λ ws. words_bytes order (MAGIC ∷ version ∷ generator ∷ bound ∷ 0 ∷ ws)) spelled)));
      right = record {
        header = ap (λ s. header_fault version bound s) (sym zero_schema) ∙ header;
        generator = opens.in_range 2 0 (omega arith);
        fit = fit;
      };
    }
  where
    nothing : (xs : List ℕ) → length xs ≡ 0 → xs ≡ []
    nothing [] e = refl
    nothing (x ∷ xs) e = absurd (omega arith)

-- an instruction that breaks a rule behind a right header
pub IsFramingError-body : (bytes : List ℕ) (order : Order) (version generator bound schema : ℕ) (body rest : List ℕ) (error : SpvError)
    → Opens bytes order version generator bound schema body rest → header_fault version bound schema ≡ None → IsInstError body error
    → IsFramingError bytes error
IsFramingError-body bytes order version generator bound schema body rest NoMemory opens header inst = tt
IsFramingError-body bytes order version generator bound schema body rest (Fault fault) opens header inst =
    inr (inr (inr (inl (record {
      order = order;
      version = version;
      generator = generator;
      bound = bound;
      schema = schema;
      body = body;
      rest = rest;
      opens = opens;
      header = header;
      inst = inst;
    }))))

-- an incomplete word behind right instructions
pub IsFramingFault-cut : (bytes : List ℕ) (order : Order) (version generator bound schema : ℕ) (body : List ℕ) (insts : List RawInst) (count : ℕ)
    → Opened bytes order version generator bound schema body → header_fault version bound schema ≡ None → body ≡ spellings insts → AllFit [] insts
    → length bytes % 4 ≢ 0 → count ≡ 5 + length body → IsFramingFault bytes (fault_at 1 count)
IsFramingFault-cut bytes order version generator bound schema body insts count opened header spelled fit odd counted =
    let len = length-Opens bytes order version generator bound schema body opened.rest opened.opens in
    inr (inr (inr (inr (record {
      order = order;
      version = version;
      generator = generator;
      bound = bound;
      schema = schema;
      body = body;
      rest = opened.rest;
      opens = opened.opens;
      header = header;
      insts = insts;
      spelled = spelled;
      fit = fit;
      more = omega (arith, len);
      due = ap (fault_at 1) counted;
    }))))
