-- From an instruction's contract to the machine's: what the machine does in a state whose instruction is known.
use mathlib.Core.Path.{◌≡◌, refl, sym, ap, ◌∙◌, subst}
use mathlib.Core.Bool.{false}
use mathlib.Core.List.{List, [], ◌∷◌}
use Prim.Native.Nat.{ℕ, zero, suc, ◌-◌, ◌≤◌, ◌<◌}
use native.Mathlib.Omega.{arith}
use lib.ListN.{length, get_or}
use Rattle.limits.specs.Machine.{Act}
use Rattle.hume.specs.Words.{Word}
use Rattle.hume.specs.Image.{Program}
use Rattle.hume.specs.State.{State, End, Deed}
use Rattle.hume.specs.Machine.{instruction, deed, charged, price, acts, machine}
use Rattle.laws.specs.Accepted.{CardFits}
use Rattle.engine.specs.Turns.{core, Buffers, Turned, Meets, priced}
use Rattle.engine.specs.Limits.{Limits}
use Rattle.engine.specs.declared.regs.Regs.{Regs}
use Rattle.engine.specs.declared.regs.Turn.{Turn}

get_d_any : (l : List ℕ) (i a b : ℕ) → i < length l → get_or l i a ≡ get_or l i b
get_d_any [] i a b h = absurd (omega arith)
get_d_any (x ∷ l) zero a b h = refl
get_d_any (x ∷ l) (suc i) a b h = get_d_any l i a b (omega (arith, h))

-- the card's entry, read with a bare index
pub price_is : (card : List ℕ) (op n : ℕ) → op - 1 < length card → n ≡ get_or card (op - 1) 0 → price card op ≡ n
unfolding price
price_is card op n h e = get_d_any card (op - 1) 1 0 h ∙ sym e

-- what the machine does where the opcode, the fields and the cost are these
acts_as : (P : Program) (card : List ℕ) (r : Regs) (ws hs : List Word) (wi or : List ℕ) (op a b c cost : ℕ) (d : Deed)
    → op ≡ P.opcode r.pc → a ≡ P.arg_a r.pc → b ≡ P.arg_b r.pc → c ≡ P.arg_c r.pc → price card op ≡ cost
    → instruction op P a b c (core r ws hs wi or false) ≡ d
    → (machine P card).act (core r ws hs wi or false) ≡ charged cost (core r ws hs wi or false) d
unfolding machine acts deed
acts_as P card r ws hs wi or op a b c cost d o p q t e i =
    rw (← o, ← p, ← q, ← t, e) (ap (charged cost (core r ws hs wi or false)) i)

-- One arm of the step: the instruction at pc meets its contract at the card's price, so the machine's act is met.
pub arm : (P : Program) (card : List ℕ) → CardFits card → {lim : Limits} {r : Regs} {b b' : Buffers} {q : Turn}
    {op x y z : ℕ} {d : State → Deed} → (op ≡ P.opcode r.pc) × (1 ≤ op) × (op ≤ 40) → x ≡ P.arg_a r.pc → y ≡ P.arg_b r.pc
    → z ≡ P.arg_c r.pc → ((s : State) → instruction op P x y z s ≡ d s)
    → Meets lim r b (priced (get_or card (op - 1) 0) d) q b' → Meets lim r b (machine P card).act q b'
arm P card f {lim} {r} {b} {b'} {q} {op} {x} {y} {z} {d} o p s t i m =
    let e = price_is card op (get_or card (op - 1) 0) (omega (arith, o.1, o.2, f.long)) refl in record {
      each = λ ws hs h v u.
          subst (λ (k : Act State End). Turned lim r b k q b')
          (sym (acts_as P card r ws hs b.wires b.order op x y z _
          (d (core r ws hs b.wires b.order false)) o.0 p s t e (i (core r ws hs b.wires b.order false))))
          (m.each ws hs h v u);
    }
