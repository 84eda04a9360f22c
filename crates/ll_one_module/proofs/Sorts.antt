-- What sort of a production tokens begin with.
use Rattle.std.proofs.Common.{◌≡◌, ℕ, ◌+◌, ◌≤◌, Bool, true, false, if◌then◌else◌, List, [], ◌∷◌, ap, ◌∙◌, arith}
use Rattle.ll_tokens.specs.declared.kinds.TokenKind.{TokenKind}
use Rattle.ll_tokens.specs.declared.kinds.TokenKind.TheVariants.{Word, Punct}
use Rattle.ll_tokens.specs.Tokens.{Lexeme}
use Rattle.ll_parser.specs.Productions.{Production, ◌>>◌, token, word, mark}
use Rattle.ll_parser.specs.GrammarValues.{if_word}
use Rattle.ll_one_module.proofs.Readers.{Ahead, Reader, done, skip, choose, Found, Reads, Opens, Weaker, last, none}
use Rattle.ll_one_module.proofs.Lists.{reads-first, reads-second}

-- the sort that the first token tells
unfoldable pub sort_at : {S : Type 0} → S → (TokenKind → List ℕ → S) → List Lexeme → S
sort_at other sort [] = other
sort_at other sort (l ∷ tokens) = sort l.kind l.text

pub record Shows {S : Type 0} (sort : List Lexeme → S) (p : Production) (s : S) : Type 0 where
  pub shows : (tokens rest : List Lexeme) → p tokens rest → sort tokens ≡ s

pub shows-token : {S : Type 0} (other : S) (sort : TokenKind → List ℕ → S) (kind : TokenKind) (wanted : Lexeme → Type 0) (s : S) → ((l : Lexeme) → wanted l → sort kind l.text ≡ s) → Shows (sort_at other sort) (token kind wanted) s
unfolding sort_at
shows-token other sort kind wanted s is = record { shows = λ tokens rest d. ap (sort_at other sort) d.1 ∙ ap (λ k. sort k (d.0).text) d.2 ∙ is d.0 d.3 }

pub shows-word : {S : Type 0} (other : S) (sort : TokenKind → List ℕ → S) (text : List ℕ) (s : S) → sort Word text ≡ s → Shows (sort_at other sort) (word text) s
shows-word other sort text s is = shows-token other sort Word _ s (λ l w. ap (sort Word) w ∙ is)

pub shows-mark : {S : Type 0} (other : S) (sort : TokenKind → List ℕ → S) (code : ℕ) (s : S) → sort Punct (code ∷ []) ≡ s → Shows (sort_at other sort) (mark code) s
shows-mark other sort code s is = shows-token other sort Punct _ s (λ l w. ap (sort Punct) w ∙ is)

pub shows-first : {S : Type 0} {sort : List Lexeme → S} {p : Production} {s : S} (q : Production) → Shows sort p s → Shows sort (p >> q) s
unfolding ◌>>◌
shows-first q one = record { shows = λ tokens rest d. one.shows tokens d.0 d.1 }

-- a reader for each sort
unfoldable pub by_sort : {S X : Type 0} → (List Lexeme → S) → (S → Reader X) → Reader X
by_sort sort reader n tokens = reader (sort tokens) n tokens

pub of-sort : {S X : Type 0} {u : Ahead} {p : Production} {x : X} (sort : List Lexeme → S) (reader : S → Reader X) (s : S) → Shows sort p s → Reads u p (reader s) x → Reads u p (by_sort sort reader) x
unfolding by_sort
of-sort {S} {X} {u} {p} {x} sort reader s is one = record {
  reads = λ tokens rest d stop.
      let found : Found (reader s) tokens x rest = one.reads tokens rest d stop in
      record { fuel = found.fuel; is = λ n le. ap (λ z. reader z n tokens) (is.shows tokens rest d) ∙ found.is n le };
}

-- a word that stands or doesn't
unfoldable pub flagged : Ahead → Reader Bool
flagged test = choose test (skip (done true)) (done false)

pub flag-reads : {u : Ahead} (test : Ahead) (text : List ℕ) → Opens (word text) test → Weaker u test → (there : Bool) → Reads u (if_word text there) (flagged test) there
unfolding flagged
flag-reads test text opens weaker true = reads-first test _ opens (last _ _)
flag-reads test text opens weaker false = reads-second test _ (record { leads = λ tokens rest same stop. ap test same ∙ weaker rest stop }) none

-- a choice that takes a reader
unfoldable pub choose_by : {X : Type 0} → (ℕ → Ahead) → Reader X → Reader X → Reader X
choose_by test r s n tokens = if test n tokens then r n tokens else s n tokens

pub record Settles (test : ℕ → Ahead) (tokens : List Lexeme) (b : Bool) : Type 0 where
  pub fuel : ℕ
  pub is : (n : ℕ) → fuel ≤ n → test n tokens ≡ b

pub by-first : {X : Type 0} {u : Ahead} {p : Production} {r : Reader X} {x : X} (test : ℕ → Ahead) (s : Reader X) → ((tokens rest : List Lexeme) → p tokens rest → Settles test tokens true) → Reads u p r x → Reads u p (choose_by test r s) x
unfolding choose_by
by-first {X} {u} {p} {r} {x} test s settles one = record {
  reads = λ tokens rest d stop.
      let f : Found r tokens x rest = one.reads tokens rest d stop in
      let g : Settles test tokens true = settles tokens rest d in
      record { fuel = f.fuel + g.fuel; is = λ n le. ap (λ b. if b then r n tokens else s n tokens) (g.is n (omega arith)) ∙ f.is n (omega arith) };
}

pub by-second : {X : Type 0} {u : Ahead} {p : Production} {s : Reader X} {x : X} (test : ℕ → Ahead) (r : Reader X) → ((tokens rest : List Lexeme) → p tokens rest → Settles test tokens false) → Reads u p s x → Reads u p (choose_by test r s) x
unfolding choose_by
by-second {X} {u} {p} {s} {x} test r settles one = record {
  reads = λ tokens rest d stop.
      let f : Found s tokens x rest = one.reads tokens rest d stop in
      let g : Settles test tokens false = settles tokens rest d in
      record { fuel = f.fuel + g.fuel; is = λ n le. ap (λ b. if b then r n tokens else s n tokens) (g.is n (omega arith)) ∙ f.is n (omega arith) };
}
