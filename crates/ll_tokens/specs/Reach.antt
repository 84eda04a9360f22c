-- How far a form reaches from the front of a text: the length of the longest front that has it.
use Rattle.std.specs.Prelude.{ℕ, ◌+◌, max, ◌==◌, if◌then◌else◌, slice_index, List, [], ◌∷◌, Option, Some, None}
use Rattle.std.specs.List.{prefix_len}
use Rattle.ll_tokens.specs.declared.bytes.ByteClass.{ByteClass}
use Rattle.ll_tokens.specs.declared.lengths.Body.{Body}
use Rattle.ll_tokens.specs.declared.lengths.Body.TheVariants.{Digits, Empty, Name, Named, Quoted}
use Rattle.ll_tokens.specs.Forms.{in_class, Form, End, Run, One, Byte, Until, Either}
use Rattle.ll_tokens.specs.Tokens.{digits, name, named, quoted}

-- one byte more
abbrev pub one_more : Option ℕ → Option ℕ
one_more None = None
one_more (Some n) = Some (1 + n)

abbrev pub longer : Option ℕ → Option ℕ → Option ℕ
longer None b = b
longer (Some m) None = Some m
longer (Some m) (Some n) = Some (max m n)

-- one byte more than n, where the byte at n is x
abbrev pub with_next : ℕ → List ℕ → ℕ → Option ℕ
with_next x bs n = if slice_index bs n == x then Some (n + 1) else None

abbrev pub reach_until : ByteClass → ℕ → (List ℕ → Option ℕ) → List ℕ → Option ℕ
reach_until c x after [] = None
reach_until c x after (b ∷ bs) = if b == x then one_more (after bs) else (if in_class c b then one_more (reach_until c x after bs) else None)

unfoldable pub reach : Form → List ℕ → Option ℕ
reach End bs = Some 0
reach (Run c) bs = Some (prefix_len (in_class c) bs)
reach (One c f) [] = None
reach (One c f) (b ∷ bs) = if in_class c b then one_more (reach f bs) else None
reach (Byte x f) [] = None
reach (Byte x f) (b ∷ bs) = if b == x then one_more (reach f bs) else None
reach (Until c x f) bs = reach_until c x (reach f) bs
reach (Either f g) bs = longer (reach f bs) (reach g bs)

-- how far a form reaches whose first byte is there, where `rest` is what stands behind it
abbrev pub reach_behind : Form → Option (List ℕ) → Option ℕ
reach_behind f None = None
reach_behind f (Some rest) = one_more (reach f rest)

abbrev pub body_form : Body → Form
body_form Empty = End
body_form Digits = digits
body_form Name = name
body_form Quoted = quoted End
body_form Named = named
