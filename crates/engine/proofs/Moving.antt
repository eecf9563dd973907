-- What the instructions that move words on the stack lead to.
use mathlib.Core.Path.{◌≡◌, refl, sym, ap, ◌∙◌, subst}
use mathlib.Core.Bool.{true, false, ◌||◌}
use mathlib.Core.List.{List, [], ◌∷◌, ◌++◌}
use Prim.Native.Nat.{ℕ, ◌+◌, ◌*◌, ◌-◌, ◌≤◌, ◌<◌}
use native.Mathlib.Omega.{arith}
use lib.Dec.{T, leb, leb→le, le→leb, ltb→lt, lt→ltb}
use lib.ListN.{length, get_or, set, replicate, length-append, length-set, length-replicate}
use lib.Seq.{sets, length-take-le, append_snoc}
use Rattle.limits.specs.Machine.{goes}
use Rattle.hume.specs.Words.{Word, null, none, link, bits, is_null, is_value}
use Rattle.hume.specs.State.{State, fault, values, locals, without, need, leaving, stacks, below}
use Rattle.hume.specs.Instructions.{MkNone, Push, Pop, Slide, Copy, argument, has_argument, CopyArg, CreateFrame, has_local, PushVar, MakeVar}
use Rattle.laws.specs.Sizes.{Small}
use Rattle.laws.proofs.Tests.{of_true}
use Rattle.laws.proofs.Deeds.{need_yes, need_no}
use Rattle.engine.specs.Fits.{Fit}
use Rattle.engine.specs.Turns.{Bears, Smalls, core, Holds, halt, Buffers, Turned, priced, pushing}
use Rattle.engine.specs.declared.Ending.TheVariants as ending
use Rattle.engine.specs.Limits.{Limits}
use Rattle.engine.specs.declared.regs.Regs.{Regs}
use Rattle.engine.specs.declared.regs.Turn.{Turn}
use Rattle.engine.proofs.After.{after}
use Rattle.engine.proofs.Turning.{Leads, stops, lead_still, values_are}
use Rattle.engine.proofs.Areas.{locals_take, locals_append, locals_set, bears_push, bears_set, bears_without}
use Rattle.engine.proofs.WordKinds.{not_so}
use Rattle.engine.proofs.Stores.{bears_nulls, length_without, locals_without, locals_link}

-- the registers at the next instruction, with this depth
abbrev pub stacked : Regs → ℕ → Regs
stacked r sp =
    after r (r.pc + 1) sp r.hp r.fp r.lp r.slp r.rp r.mp r.inp r.rs

-- the registers in a new frame of a locals
abbrev pub framing : Regs → ℕ → Regs
framing r a =
    after r (r.pc + 1) (r.sp + 1 + a) r.hp (r.sp + 1) (r.sp + 1 + a) r.slp r.rp r.mp r.inp r.rs

module _ {r : Regs} (f : Fit r) {st he : List ℕ} {ws hs : List Word} (h : Holds r st he ws hs)
    (wi or : List ℕ) where
  abbrev s : State
  s = core r ws hs wi or false

  pub pop_few : (cost a : ℕ) {b : Buffers} {q : Turn} {lim : Limits} → r.sp - r.lp < a → q ≡ halt r (ending.Fault 1)
      → Turned lim r b (priced cost (Pop a) s) q b
  unfolding Pop
  pop_few cost a {b} {q} k e =
      stops cost _ r b s (fault 1)
      (need_no (leb a (values s)) 1 (stacks s (without a ws))
      (λ t. let v : a ≤ r.sp - r.lp = rw (values_are h wi or false) at (leb→le a (values s) t) in omega arith))
      e

  pub pop_leads : (cost a : ℕ) → a ≤ r.sp - r.lp → Leads cost (priced cost (Pop a) s) (stacked r (r.sp - a)) (without a ws) hs wi or
  unfolding Pop without
  pop_leads cost a k =
      lead_still cost s (stacked r (r.sp - a))
      (need_yes (leb a (values s)) 1 (stacks s (without a ws)) (le→leb a (values s) (rw (values_are h wi or false) k)))
      (ap (λ (n : ℕ). n - a) h.sp ∙ sym (length-take-le (length ws - a) ws (omega arith)))
      h.hp
      (h.lp ∙ ap (λ (n : ℕ). r.fp + n) (sym (locals_take r.fp (length ws - a) ws (omega (arith, h.sp, f.fp, f.lp)))))

  pub push_leads : (cost : ℕ) (v : Word) → Leads cost (priced cost (pushing v) s) (stacked r (r.sp + 1)) (ws ++ v ∷ []) hs wi or
  push_leads cost v =
      lead_still cost s (stacked r (r.sp + 1)) refl (ap (λ (n : ℕ). n + 1) h.sp ∙ sym (length-append ws (v ∷ [])))
      h.hp
      (h.lp ∙ ap (λ (n : ℕ). r.fp + n) (sym (locals_append r.fp ws (v ∷ []) (omega (arith, h.sp, f.fp, f.lp)))))

  pub copy_few : (cost a : ℕ) {b : Buffers} {q : Turn} {lim : Limits} → r.sp - r.lp ≤ a → q ≡ halt r (ending.Fault 1)
      → Turned lim r b (priced cost (Copy a) s) q b
  unfolding Copy
  copy_few cost a {b} {q} k e =
      stops cost _ r b s (fault 1)
      (need_no (leb (a + 1) (values s)) 1 (stacks s (ws ++ below ws a ∷ []))
      (λ t. let v : a + 1 ≤ r.sp - r.lp = rw (values_are h wi or false) at (leb→le (a + 1) (values s) t) in omega arith))
      e

  pub copy_is : (a : ℕ) → a < r.sp - r.lp → Copy a s ≡ pushing (below ws a) s
  unfolding Copy
  copy_is a k =
      need_yes (leb (a + 1) (values s)) 1 (stacks s (ws ++ below ws a ∷ []))
      (le→leb (a + 1) (values s) (rw (values_are h wi or false) (omega arith)))

  pub mk_none_is : MkNone s ≡ pushing none s
  unfolding MkNone
  mk_none_is = refl

  -- ---- Slide

  pub slide_few : (cost a : ℕ) {b : Buffers} {q : Turn} {lim : Limits} → r.sp - r.lp ≤ a → q ≡ halt r (ending.Fault 1)
      → Turned lim r b (priced cost (Slide a) s) q b
  unfolding Slide
  slide_few cost a {b} {q} k e =
      stops cost _ r b s (fault 1)
      (need_no (leb (a + 1) (values s)) 1 (stacks s (without (a + 1) ws ++ below ws 0 ∷ []))
      (λ t. let v : a + 1 ≤ r.sp - r.lp = rw (values_are h wi or false) at (leb→le (a + 1) (values s) t) in omega arith))
      e

  pub slide_leads : (cost a : ℕ) → a < r.sp - r.lp
      → Leads cost (priced cost (Slide a) s) (stacked r (r.sp - a)) (without (a + 1) ws ++ below ws 0 ∷ []) hs wi or
  unfolding Slide
  slide_leads cost a k =
      let x : List Word = below ws 0 ∷ [] in
      let z = length_without (a + 1) ws in
      let m : r.fp ≤ length ws - (a + 1) = omega (arith, h.sp, f.fp, f.lp) in
      lead_still cost s (stacked r (r.sp - a))
      (need_yes (leb (a + 1) (values s)) 1 (stacks s (without (a + 1) ws ++ x))
      (le→leb (a + 1) (values s) (rw (values_are h wi or false) (omega arith))))
      (let y = length-append (without (a + 1) ws) x in omega (arith, h.sp, y, z))
      h.hp
      (h.lp
      ∙ ap (λ (n : ℕ). r.fp + n)
      (sym (locals_append r.fp (without (a + 1) ws) x (omega (arith, z)) ∙ locals_without r.fp (a + 1) ws m)))

  pub slide_bears : (a n : ℕ) → a < r.sp - r.lp → n ≡ bits (below ws 0) → r.sp ≤ length st
      → Bears (set st (r.sp - (a + 1)) n) (without (a + 1) ws ++ below ws 0 ∷ [])
  slide_bears a n k e m =
      let z = length_without (a + 1) ws in
      bears_push st (without (a + 1) ws) (below ws 0) (r.sp - (a + 1)) n (bears_without st ws (a + 1) h.stack)
      (omega (arith, z, h.sp))
      e (omega (arith, f.lp, k))

  -- ---- words that are read

  pub reads_at : (i n : ℕ) → i < r.sp → n ≡ get_or st i 0 → n ≡ bits (get_or ws i null)
  reads_at i n k e = e ∙ h.stack.get i (omega (arith, h.sp))

  pub reads_argument : (a n : ℕ) → 5 + a ≤ r.fp → n ≡ get_or st (r.fp - (5 + a)) 0 → n ≡ bits (argument s a)
  unfolding argument
  reads_argument a n k e = reads_at (r.fp - (5 + a)) n (omega (arith, f.fp, f.lp)) e

  pub small_argument : (a : ℕ) → Smalls ws → Small (argument s a)
  unfolding argument
  small_argument a m = m.each (r.fp - (5 + a))

  -- ---- CopyArg

  pub copy_arg_low : (cost a : ℕ) {b : Buffers} {q : Turn} {lim : Limits} → r.fp < 5 + a → q ≡ halt r (ending.Fault 3)
      → Turned lim r b (priced cost (CopyArg a) s) q b
  unfolding CopyArg has_argument
  copy_arg_low cost a {b} {q} k e =
      stops cost _ r b s (fault 3)
      (need_no (leb (5 + a) r.fp) 3
      (need (is_null (argument s a) || is_value (argument s a)) 2 (stacks s (ws ++ argument s a ∷ [])))
      (λ t. let v = leb→le (5 + a) r.fp t in omega arith))
      e

  pub copy_arg_kind : (cost a : ℕ) {b : Buffers} {q : Turn} {lim : Limits} → 5 + a ≤ r.fp
      → (is_null (argument s a) || is_value (argument s a)) ≡ false → q ≡ halt r (ending.Fault 2)
      → Turned lim r b (priced cost (CopyArg a) s) q b
  unfolding CopyArg has_argument
  copy_arg_kind cost a {b} {q} k z e =
      stops cost _ r b s (fault 2)
      (need_yes (leb (5 + a) r.fp) 3
      (need (is_null (argument s a) || is_value (argument s a)) 2 (stacks s (ws ++ argument s a ∷ [])))
      (le→leb (5 + a) r.fp k)
      ∙ need_no (is_null (argument s a) || is_value (argument s a)) 2 (stacks s (ws ++ argument s a ∷ [])) (not_so z))
      e

  pub copy_arg_is : (a : ℕ) → 5 + a ≤ r.fp → (is_null (argument s a) || is_value (argument s a)) ≡ true
      → CopyArg a s ≡ pushing (argument s a) s
  unfolding CopyArg has_argument
  copy_arg_is a k z =
      need_yes (leb (5 + a) r.fp) 3
      (need (is_null (argument s a) || is_value (argument s a)) 2 (stacks s (ws ++ argument s a ∷ [])))
      (le→leb (5 + a) r.fp k)
      ∙ need_yes (is_null (argument s a) || is_value (argument s a)) 2 (stacks s (ws ++ argument s a ∷ [])) (of_true z)

  -- ---- Push

  pub push_nulls_leads : (cost a : ℕ)
      → Leads cost (priced cost (Push a) s) (stacked r (r.sp + a)) (ws ++ replicate a null) hs wi or
  unfolding Push
  push_nulls_leads cost a =
      let y = length-append ws (replicate a null) in
      let z = length-replicate a null in
      lead_still cost s (stacked r (r.sp + a)) refl (omega (arith, h.sp, y, z))
      h.hp
      (h.lp
      ∙ ap (λ (n : ℕ). r.fp + n)
      (sym (locals_append r.fp ws (replicate a null) (omega (arith, h.sp, f.fp, f.lp)))))

  pub push_nulls_bears : (a : ℕ) (l : List ℕ) → r.sp + a ≤ length st → l ≡ sets st r.sp (replicate a 0)
      → Bears l (ws ++ replicate a null)
  push_nulls_bears a l k e =
      subst (λ (x : List ℕ). Bears x (ws ++ replicate a null)) (sym e)
      (bears_nulls a st ws r.sp h.stack h.sp k)

  -- ---- CreateFrame

  pub create_few : (cost a : ℕ) {b : Buffers} {q : Turn} {lim : Limits} → r.sp - r.lp < 3 → q ≡ halt r (ending.Fault 4)
      → Turned lim r b (priced cost (CreateFrame a) s) q b
  unfolding CreateFrame
  create_few cost a {b} {q} k e =
      stops cost _ r b s (fault 4)
      (need_no (leb 3 (values s)) 4 _
      (λ t. let v : 3 ≤ r.sp - r.lp = rw (values_are h wi or false) at (leb→le 3 (values s) t) in omega arith))
      e

  pub create_leads : (cost a : ℕ) → a < 256 → 3 ≤ r.sp - r.lp
      → Leads cost (priced cost (CreateFrame a) s) (framing r a) (ws ++ link r.fp a ∷ replicate a null) hs wi or
  unfolding CreateFrame
  create_leads cost a m k =
      let us : List Word = link r.fp a ∷ replicate a null in
      let y = length-append ws us in
      let z = length-replicate a null in
      lead_still cost s (framing r a)
      (need_yes (leb 3 (values s)) 4 _ (le→leb 3 (values s) (rw (values_are h wi or false) k))
      ∙ ap
      (λ (n : ℕ).
      goes 0
      (leaving s
      (record {
        pc = r.pc + 1;
        fp = n + 1;
        slp = r.slp;
        rp = r.rp;
        mp = r.mp;
        inp = r.inp;
        rs = r.rs;
      })
      (ws ++ us)
      []))
      (sym h.sp))
      (omega (arith, h.sp, y, z))
      h.hp
      (ap (λ (n : ℕ). r.sp + 1 + n) (sym (locals_link ws (replicate a null) r.fp a r.sp h.sp m)))

  pub link_bits : (a n : ℕ) → n ≡ 1610612736 + (r.fp * 256 + a) → n ≡ bits (link r.fp a)
  unfolding bits
  link_bits a n e = omega (arith, e)

  pub create_bears : (a n : ℕ) (l : List ℕ) → n ≡ 1610612736 + (r.fp * 256 + a) → r.sp + 1 + a ≤ length st
      → l ≡ sets (set st r.sp n) (r.sp + 1) (replicate a 0) → Bears l (ws ++ link r.fp a ∷ replicate a null)
  create_bears a n l e k g =
      let w = link r.fp a in
      subst (λ (x : List ℕ). Bears x (ws ++ w ∷ replicate a null)) (sym g)
      (subst (λ (x : List Word). Bears (sets (set st r.sp n) (r.sp + 1) (replicate a 0)) x)
      (append_snoc ws w (replicate a null))
      (bears_nulls a (set st r.sp n) (ws ++ w ∷ []) (r.sp + 1)
      (bears_push st ws w r.sp n h.stack h.sp (link_bits a n e) (omega arith))
      (let y = length-append ws (w ∷ []) in omega (arith, h.sp, y))
      (let y = length-set st r.sp n in omega (arith, y))))

  -- ---- the locals

  locals_are : locals r.fp ws ≡ r.lp - r.fp
  locals_are = omega (arith, h.lp)

  local_no : (a : ℕ) → r.lp - r.fp ≤ a → T (has_local s a) → ⊥
  unfolding has_local
  local_no a k t = let v = ltb→lt a (locals r.fp ws) t in omega (arith, locals_are)

  local_yes : (a : ℕ) → a < r.lp - r.fp → T (has_local s a)
  unfolding has_local
  local_yes a k = lt→ltb a (locals r.fp ws) (omega (arith, locals_are))

  pub push_var_none : (cost a : ℕ) {b : Buffers} {q : Turn} {lim : Limits} → r.lp - r.fp ≤ a → q ≡ halt r (ending.Fault 3)
      → Turned lim r b (priced cost (PushVar a) s) q b
  unfolding PushVar
  push_var_none cost a {b} {q} k e = stops cost _ r b s (fault 3) (need_no (has_local s a) 3 _ (local_no a k)) e

  pub push_var_is : (a : ℕ) → a < r.lp - r.fp → PushVar a s ≡ pushing (get_or ws (r.fp + a) null) s
  unfolding PushVar
  push_var_is a k = need_yes (has_local s a) 3 _ (local_yes a k)

  pub make_var_few : (cost a : ℕ) {b : Buffers} {q : Turn} {lim : Limits} → r.sp - r.lp < 1 → q ≡ halt r (ending.Fault 1)
      → Turned lim r b (priced cost (MakeVar a) s) q b
  unfolding MakeVar
  make_var_few cost a {b} {q} k e =
      stops cost _ r b s (fault 1)
      (need_no (leb 1 (values s)) 1 _
      (λ t. let v : 1 ≤ r.sp - r.lp = rw (values_are h wi or false) at (leb→le 1 (values s) t) in omega arith))
      e

  pub make_var_none : (cost a : ℕ) {b : Buffers} {q : Turn} {lim : Limits} → 1 ≤ r.sp - r.lp → r.lp - r.fp ≤ a
      → q ≡ halt r (ending.Fault 3) → Turned lim r b (priced cost (MakeVar a) s) q b
  unfolding MakeVar
  make_var_none cost a {b} {q} k m e =
      stops cost _ r b s (fault 3)
      (need_yes (leb 1 (values s)) 1 _ (le→leb 1 (values s) (rw (values_are h wi or false) k))
      ∙ need_no (has_local s a) 3 _ (local_no a m))
      e

  pub make_var_leads : (cost a : ℕ) → 1 ≤ r.sp - r.lp → a < r.lp - r.fp
      → Leads cost (priced cost (MakeVar a) s) (stacked r (r.sp - 1)) (without 1 (set ws (r.fp + a) (below ws 0))) hs wi or
  unfolding MakeVar
  make_var_leads cost a k m =
      let vs = set ws (r.fp + a) (below ws 0) in
      let y = length-set ws (r.fp + a) (below ws 0) in
      let z = length_without 1 vs in
      lead_still cost s (stacked r (r.sp - 1))
      (need_yes (leb 1 (values s)) 1 _ (le→leb 1 (values s) (rw (values_are h wi or false) k))
      ∙ need_yes (has_local s a) 3 _ (local_yes a m))
      (omega (arith, h.sp, y, z))
      h.hp
      (h.lp
      ∙ ap (λ (n : ℕ). r.fp + n)
      (sym
      (locals_without r.fp 1 vs (omega (arith, h.sp, y, f.fp, f.lp))
      ∙ locals_set r.fp (r.fp + a) ws (below ws 0) (omega arith))))

  pub make_var_bears : (a n : ℕ) → 1 ≤ r.sp - r.lp → a < r.lp - r.fp → n ≡ bits (below ws 0)
      → Bears (set st (r.fp + a) n) (without 1 (set ws (r.fp + a) (below ws 0)))
  make_var_bears a n k m e =
      bears_without (set st (r.fp + a) n) (set ws (r.fp + a) (below ws 0)) 1
      (bears_set st ws (below ws 0) (r.fp + a) n h.stack e (omega (arith, h.sp, k, m)))
