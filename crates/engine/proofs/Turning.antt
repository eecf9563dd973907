-- What a charge makes of an instruction, of any state that the registers and buffers bear: two laws serve every instruction.
use mathlib.Core.Path.{◌≡◌, refl, sym, ap, ◌∙◌, subst}
use mathlib.Core.Bool.{Bool, true, false, true≢false, false≢true}
use mathlib.Core.List.{List, [], ◌++◌, append-nil}
use Prim.Native.Nat.{ℕ, ◌+◌, ◌-◌, ◌≤◌, ◌<◌}
use native.Mathlib.Omega.{arith}
use lib.ListN.{length, get_or, length-append}
use Rattle.limits.specs.Machine.{Act, ends, goes}
use Rattle.hume.specs.Words.{Word, null, bits}
use Rattle.hume.specs.State.{State, End, Deed, leaving, locals, values, lp, below}
use Rattle.hume.specs.Machine.{charged}
use Rattle.engine.specs.Turns.{Bears, plain, core, Holds, end_of, halt, Charging, goes_on, Buffers, Turned, ended, went}
use Rattle.engine.specs.Turns as turns
use Rattle.engine.specs.Limits.{Limits}
use Rattle.engine.specs.declared.regs.Regs.{Regs}
use Rattle.engine.specs.declared.regs.Turn.{Turn}

-- the machine does o: in the time t, to the registers next with the words ws and hs, the wires and the order
pub record Leads (t : ℕ) (o : Act State End) (next : Regs) (ws hs : List Word) (wi or : List ℕ) : Type 0 where
  pub same : o ≡ goes t (core next ws hs wi or false)
  pub sp : next.sp ≡ length ws
  pub hp : next.hp ≡ length hs
  pub lp : next.lp ≡ next.fp + locals next.fp ws

-- the buffers bear it
pub record Borne (b : Buffers) (ws hs : List Word) (wi or : List ℕ) : Type 0 where
  pub stack : Bears b.stack ws
  pub heap : Bears b.heap hs
  pub wires : b.wires ≡ wi
  pub order : b.order ≡ or

module _ {t : ℕ} {o : Act State End} {next : Regs} {ws hs : List Word} {wi or : List ℕ} (l : Leads t o next ws hs wi or)
    {lim : Limits} {r : Regs} {q : Turn} where
  -- a limit is broken, and nothing was written
  pub settle_no : (b : Buffers) → Charging lim r t next q → goes_on q ≡ false → Turned lim r b o q b
  settle_no b (turns.late p e) g = turns.late t (core next ws hs wi or false) l.same p e refl
  settle_no b (turns.deep p k e) g = turns.deep t (core next ws hs wi or false) l.same p (rw l.sp at k) e refl
  settle_no b (turns.full p k m e) g =
      turns.full t (core next ws hs wi or false) l.same p (rw l.sp at k) (rw l.hp at m) e refl
  settle_no b (turns.pays p k m e) g = absurd (true≢false (sym (ap goes_on e) ∙ g))

  -- it is paid for, and what was written bears the next state
  pub settle_yes : (b b' : Buffers) → Charging lim r t next q → goes_on q ≡ true
      → (next.sp ≤ lim.stack → next.hp ≤ lim.heap → Borne b' ws hs wi or) → Turned lim r b o q b'
  settle_yes b b' (turns.late p e) g w = absurd (false≢true (sym (ap goes_on e) ∙ g))
  settle_yes b b' (turns.deep p k e) g w = absurd (false≢true (sym (ap goes_on e) ∙ g))
  settle_yes b b' (turns.full p k m e) g w = absurd (false≢true (sym (ap goes_on e) ∙ g))
  settle_yes b b' (turns.pays p k m e) g w =
      let z = w k m in
      went t (core next ws hs wi or false) l.same
      (record {
        next = next;
        turn = e;
        is = rw (z.wires, z.order);
        holds = record { stack = z.stack; heap = z.heap; sp = l.sp; hp = l.hp; lp = l.lp };
        time = p;
        depth = rw l.sp at k;
        heap = rw l.hp at m;
      })

  -- nothing is written whether or not it is paid for
  pub settled : (b : Buffers) → Charging lim r t next q
      → (next.sp ≤ lim.stack → next.hp ≤ lim.heap → Borne b ws hs wi or) → Turned lim r b o q b
  settled b c w = by (goes_on q) refl
    where
      by : (g : Bool) → goes_on q ≡ g → Turned lim r b o q b
      by true e = settle_yes b b c e w
      by false e = settle_no b c e

-- what was paid for is inside the limits
pub record Paid (lim : Limits) (next : Regs) : Type 0 where
  pub depth : next.sp ≤ lim.stack
  pub heap : next.hp ≤ lim.heap

pub went_on : {lim : Limits} {r : Regs} {t : ℕ} {next : Regs} {q : Turn} → Charging lim r t next q → goes_on q ≡ true
    → Paid lim next
went_on (turns.late p e) g = absurd (false≢true (sym (ap goes_on e) ∙ g))
went_on (turns.deep p k e) g = absurd (false≢true (sym (ap goes_on e) ∙ g))
went_on (turns.full p k m e) g = absurd (false≢true (sym (ap goes_on e) ∙ g))
went_on (turns.pays p k m e) g = record { depth = k; heap = m }

-- an ending of the machine's own
pub stops : (cost : ℕ) (lim : Limits) (r : Regs) (b : Buffers) (s : State) {d : Deed} {q : Turn} (e : End) → d ≡ ends e
    → q ≡ halt r (end_of e) → Turned lim r b (charged cost s d) q b
unfolding charged
stops cost lim r b s e p k = ended e (rw p) k refl

-- ---- what an instruction leads to

module _ (cost : ℕ) (s : State) (next : Regs) {ws : List Word} {d : Deed} where
  -- one that adds words to the heap, in k more time
  pub lead_grown : (t k : ℕ) (g : List Word) → d ≡ goes k (leaving s (plain next) ws g) → t ≡ cost + k
      → next.sp ≡ length ws → next.hp ≡ length s.heap + length g → next.lp ≡ next.fp + locals next.fp ws
      → Leads t (charged cost s d) next ws (s.heap ++ g) s.wires s.order
  unfolding charged
  lead_grown t k g p e a b c = record { same = rw (p, e); sp = a; hp = b ∙ sym (length-append s.heap g); lp = c }

  -- one that adds none
  pub lead_still : d ≡ goes 0 (leaving s (plain next) ws []) → next.sp ≡ length ws → next.hp ≡ length s.heap
      → next.lp ≡ next.fp + locals next.fp ws
      → Leads cost (charged cost s d) next ws s.heap s.wires s.order
  unfolding charged
  lead_still p a b c =
      let z : cost + 0 ≡ cost = omega arith in
      record { same = rw (p, append-nil, z); sp = a; hp = b; lp = c }

-- ---- what the registers say

module _ {r : Regs} {st he : List ℕ} {ws hs : List Word} (h : Holds r st he ws hs) where
  -- the number of values
  pub values_are : (wi or : List ℕ) (d : Bool) → values (core r ws hs wi or d) ≡ r.sp - r.lp
  unfolding values lp
  values_are wi or d = rw (h.sp, h.lp)

-- an instruction that does what another does
pub turned_as : (cost : ℕ) (s : State) {lim : Limits} {r : Regs} {b b' : Buffers} {q : Turn} {d e : Deed} → d ≡ e
    → Turned lim r b (charged cost s e) q b' → Turned lim r b (charged cost s d) q b'
turned_as cost s {lim} {r} {b} {b'} {q} p t =
    subst (λ (x : Deed). Turned lim r b (charged cost s x) q b') (sym p) t

-- ---- words that are read

module _ {r : Regs} {st he : List ℕ} {ws hs : List Word} (h : Holds r st he ws hs) where
  -- the word a below the top
  pub reads_below : (a n : ℕ) → a < r.sp → n ≡ get_or st (r.sp - (a + 1)) 0 → n ≡ bits (below ws a)
  unfolding below
  reads_below a n k e =
      e
      ∙ h.stack.get (r.sp - (a + 1)) (omega (arith, h.sp))
      ∙ ap (λ (x : ℕ). bits (get_or ws (x - (a + 1)) null)) h.sp
