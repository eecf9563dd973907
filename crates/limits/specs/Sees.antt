-- One machine seen as another: a change of representation, or figures kept beside the state.
use Rattle.std.specs.Prelude.{◌≡◌, ℕ}
use Rattle.limits.specs.Machine.{Act, ends, goes, Machine, Run, Limits, Outcome}
use Rattle.limits.specs.Kept.{KeepsState, KeepsInside}

-- The same act, of what f makes of the state after it.
abbrev pub see_act : {S S' E : Type 0} → (S → S') → Act S E → Act S' E
see_act f (ends e) = ends e
see_act f (goes t s) = goes t (f s)

-- The same figures, of what f makes of the state.
abbrev pub see_run : {S S' : Type 0} → (S → S') → Run S → Run S'
see_run f r = record { state = f r.state; steps = r.steps; time = r.time; peak = r.peak }

-- The same ending there.
abbrev pub see_outcome : {S S' E : Type 0} → (S → S') → Outcome S E → Outcome S' E
see_outcome f q = record { ending = q.ending; run = see_run f q.run }

-- Where P holds, N does in f s what M does in s, and is as deep and as full; and M keeps P.
pub record Sees {S S' E : Type 0} (M : Machine S E) (N : Machine S' E) (f : S → S') (P : S → Type 0) : Type 0 where
  pub act : (s : S) → P s → N.act (f s) ≡ see_act f (M.act s)
  pub depth : (s : S) → P s → N.depth (f s) ≡ M.depth s
  pub heap : (s : S) → P s → N.heap (f s) ≡ M.heap s
  pub keeps : KeepsState M P

-- The same of a property of runs that an instruction need only keep if it stays inside the limits L.
pub record SeesInside {S S' E : Type 0} (M : Machine S E) (N : Machine S' E) (f : S → S') (L : Limits)
    (P : Run S → Type 0) : Type 0 where
  pub act : (r : Run S) → P r → N.act (f r.state) ≡ see_act f (M.act r.state)
  pub depth : (r : Run S) (t : ℕ) (u : S) → P r → M.act r.state ≡ goes t u → N.depth (f u) ≡ M.depth u
  pub heap : (r : Run S) (t : ℕ) (u : S) → P r → M.act r.state ≡ goes t u → N.heap (f u) ≡ M.heap u
  pub keeps : KeepsInside M L P
