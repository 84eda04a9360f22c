-- Items as their reader answers them.
use Rattle.std.proofs.Common.{◌≡◌, ℕ, List, codes, sym, subst, inr, Some}
use Rattle.ll_tokens.specs.Tokens.{Lexeme}
use Rattle.ll_tree.specs.declared.module.NodeRef.{NodeRef}
use Rattle.ll_tree.specs.declared.name.NameText.{NameText}
use Rattle.ll_parser.specs.declared.refusal.ReadError.{ReadError}
use Rattle.ll_parser.specs.declared.refusal.ReadError.TheVariants.{NoMemory, Refused}
use Rattle.ll_parser.specs.GrammarItems.{named_nodes}
use Rattle.ll_parser.specs.NameReading.{ReadsWith}
use Rattle.ll_parser.specs.Productions.{Production}
use Rattle.ll_parser.proofs.TableFacts.{extends_same}
use Rattle.ll_types.specs.ValueRefusals.{Unless}
use Rattle.ll_operands.specs.Parts.{Refuses}
use Rattle.ll_items.specs.declared.small_items.SmallItem.{SmallItem}
use Rattle.ll_items.specs.declared.small_items.SmallItem.TheVariants as small
use Rattle.ll_items.specs.declared.starts.Start.{Start}
use Rattle.ll_items.specs.Starts.{SmallFails, item_part, small_here, start_of}

-- the item that begins is refused
pub small_stops : (tokens : List Lexeme) (s : Start) (error told : ReadError) → told ≡ error → start_of tokens ≡ Some s → Refuses (item_part s) tokens error → Unless (SmallFails tokens) told
small_stops tokens s NoMemory told same starts x = subst (Unless (SmallFails tokens)) (sym same) tt
small_stops tokens s (Refused refusal) told same starts x = subst (Unless (SmallFails tokens)) (sym same) (s, starts, x)

-- an item that needs no table of names, and one that needs it
pub pure_read : (names : List NameText) (i : SmallItem) (tokens rest : List Lexeme) → ((longer : List NameText) → small_here longer i tokens rest) → ReadsWith small_here names names i tokens rest
pure_read names i tokens rest d = record { extends = extends_same names; reads = λ longer e. d longer }

pub reads_item : {A : Type 0} (p : List NameText → A → Production) (x : A) (i : SmallItem) (old new : List NameText) (tokens rest : List Lexeme) → ((names : List NameText) → p names x tokens rest → small_here names i tokens rest) → ReadsWith p old new x tokens rest → ReadsWith small_here old new i tokens rest
reads_item p x i old new tokens rest step r = record { extends = r.extends; reads = λ longer e. step longer (r.reads longer e) }

-- named metadata
pub versions_kept : (name : List ℕ) (nodes : List NodeRef) (tokens rest : List Lexeme) → name ≡ codes "opencl.ocl.version" → named_nodes name nodes tokens rest → (names : List NameText) → small_here names (small.Versions nodes) tokens rest
versions_kept name nodes tokens rest is d names = subst (λ (n : List ℕ). named_nodes n nodes tokens rest) is d

pub others_dropped : (name : List ℕ) (nodes : List NodeRef) (tokens rest : List Lexeme) → (name ≡ codes "opencl.ocl.version" → ⊥) → named_nodes name nodes tokens rest → (names : List NameText) → small_here names small.Dropped tokens rest
others_dropped name nodes tokens rest differs d names = inr (inr (name, nodes, differs, d))
