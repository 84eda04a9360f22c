-- Fences, atomic exchanges and updates as they are read: what exits of readers answer.
use Rattle.std.proofs.Common.{◌≡◌, ℕ, List, Option, sym, subst}
use Rattle.kern_lanes.specs.declared.atomic.RmwOp.{RmwOp}
use Rattle.ll_tokens.specs.Tokens.{Lexeme}
use Rattle.ll_tree.specs.declared.name.NameText.{NameText}
use Rattle.ll_tree.specs.declared.op.Op.{Op}
use Rattle.ll_tree.specs.declared.op.Op.TheVariants as op
use Rattle.ll_tree.specs.declared.op.Order.{Order}
use Rattle.ll_parser.specs.GrammarInsts.{order, rmw_word}
use Rattle.ll_parser.specs.NameReading.{ReadsWith}
use Rattle.ll_parser.specs.Productions.{◌>>◌, word}
use Rattle.ll_parser.proofs.TableFacts.{extends_same}
use Rattle.ll_operands.specs.declared.operands.Three.{Three}
use Rattle.ll_operands.specs.declared.operands.Two.{Two}
use Rattle.ll_operands.specs.Operands.{three, two}
use Rattle.ll_memory_ops.specs.declared.atomics.ExchangeOrders.{ExchangeOrders}
use Rattle.ll_memory_ops.specs.declared.opcodes.MemoryOpcode.TheVariants as opcode
use Rattle.ll_memory_ops.specs.declared.orders.ScopedOrder.{ScopedOrder}
use Rattle.ll_memory_ops.specs.AccessParts.{align_here}
use Rattle.ll_memory_ops.specs.AtomicParts.{exchange_orders, exchange_orders_part}
use Rattle.ll_memory_ops.specs.MemoryOperations.{behind}
use Rattle.ll_memory_ops.specs.OrderParts.{scoped_order}
use Rattle.ll_memory_ops.proofs.OperationsRead.{made_of}
use Rattle.ll_memory_ops.proofs.OrdersRead.{scoped_is_part}

-- a fence
fence_made : (names : List NameText) (o : ScopedOrder) (tokens rest : List Lexeme) → scoped_order o tokens rest → behind opcode.Fence names (op.Fence o.scope o.order) tokens rest
unfolding ◌>>◌
fence_made names o tokens rest d = λ before w. (tt, ((tokens, w, d), tt))

pub fence_read : (o : ScopedOrder) (made : Op) (names : List NameText) (tokens rest : List Lexeme) → made ≡ op.Fence o.scope o.order → scoped_order o tokens rest → ReadsWith (behind opcode.Fence) names names made tokens rest
fence_read o made names tokens rest is d =
    subst (λ x. ReadsWith (behind opcode.Fence) names names x tokens rest) (sym is) (record { extends = extends_same names; reads = λ longer e. fence_made longer o tokens rest d })

-- the two orders of an exchange
pub exchange_orders_read : (o : ScopedOrder) (unequal : Order) (tokens middle rest : List Lexeme) → scoped_order o tokens middle → order unequal middle rest → exchange_orders (record { equal = o; unequal = unequal }) tokens rest
unfolding ◌>>◌
exchange_orders_read o unequal tokens middle rest d w = (middle, d, w)

pub exchange_orders_are_part : (x : ExchangeOrders) (tokens rest : List Lexeme) → exchange_orders x tokens rest → exchange_orders_part.begins tokens rest
unfolding ◌>>◌
exchange_orders_are_part x tokens rest (m, d, w) = (m, scoped_is_part x.equal tokens m d, (x.unequal, w))

-- an exchange, and an update
module _ (names : List NameText) where
  exchange_made : (x : Three) (o : ExchangeOrders) (bytes : Option ℕ) (tokens a b rest : List Lexeme) → exchange_orders o a b → align_here bytes b rest → three names x tokens a → behind opcode.CompareExchange names (op.CompareExchange x.first x.second x.third o.equal.scope o.equal.order o.unequal bytes) tokens rest
  unfolding ◌>>◌
  exchange_made x o bytes tokens a b rest (s, (q, sc, equal), unequal) al (m, d, (n, comma, (k, e, (l, comma', f)))) =
      λ before w. (tt, ((tokens, w, (a, (k, (m, d, (n, comma, e)), (l, comma', f)), (q, sc, (s, equal, (b, unequal, al.0))))), al.1))

  update_made : (kind : RmwOp) (x : Two) (o : ScopedOrder) (bytes : Option ℕ) (tokens inside a b rest : List Lexeme) → word (rmw_word kind) tokens inside → scoped_order o a b → align_here bytes b rest → two names x inside a → behind opcode.AtomicRmw names (op.AtomicRmw kind x.first x.second o.scope o.order bytes) tokens rest
  unfolding ◌>>◌
  update_made kind x o bytes tokens inside a b rest k (q, sc, ord) al d =
      λ before w. (tt, ((tokens, w, (inside, k, (a, d, (q, sc, (b, ord, al.0))))), al.1))

pub exchange_read : (x : Three) (o : ExchangeOrders) (bytes : Option ℕ) (made : Op) (old new : List NameText) (tokens a b rest : List Lexeme) → made ≡ op.CompareExchange x.first x.second x.third o.equal.scope o.equal.order o.unequal bytes → ReadsWith three old new x tokens a → exchange_orders o a b → align_here bytes b rest → ReadsWith (behind opcode.CompareExchange) old new made tokens rest
exchange_read x o bytes made old new tokens a b rest is r so al =
    made_of three (behind opcode.CompareExchange) x (op.CompareExchange x.first x.second x.third o.equal.scope o.equal.order o.unequal bytes) made old new tokens tokens a rest is (λ names d. exchange_made names x o bytes tokens a b rest so al d) r

pub update_read : (kind : RmwOp) (x : Two) (o : ScopedOrder) (bytes : Option ℕ) (made : Op) (old new : List NameText) (tokens inside a b rest : List Lexeme) → made ≡ op.AtomicRmw kind x.first x.second o.scope o.order bytes → word (rmw_word kind) tokens inside → ReadsWith two old new x inside a → scoped_order o a b → align_here bytes b rest → ReadsWith (behind opcode.AtomicRmw) old new made tokens rest
update_read kind x o bytes made old new tokens inside a b rest is k r so al =
    made_of two (behind opcode.AtomicRmw) x (op.AtomicRmw kind x.first x.second o.scope o.order bytes) made old new tokens inside a rest is (λ names d. update_made names kind x o bytes tokens inside a b rest k so al d) r
