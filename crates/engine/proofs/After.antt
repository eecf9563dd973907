-- The registers after an instruction, before it is charged.
use Prim.Native.Nat.{ℕ, ◌+◌}
use Rattle.engine.specs.declared.regs.Regs.{Regs}

-- with these in place of its own, and the steps, the time that is left and the peak as they were
abbrev pub after : Regs → ℕ → ℕ → ℕ → ℕ → ℕ → ℕ → ℕ → ℕ → ℕ → ℕ → Regs
after r pc sp hp fp lp slp rp mp inp rs =
    record {
      pc = pc;
      sp = sp;
      hp = hp;
      fp = fp;
      lp = lp;
      slp = slp;
      rp = rp;
      mp = mp;
      inp = inp;
      rs = rs;
      steps = r.steps;
      left = r.left;
      peak = r.peak;
    }

-- at the next instruction, with this depth and heap
abbrev pub built : Regs → ℕ → ℕ → Regs
built r sp hp = after r (r.pc + 1) sp hp r.fp r.lp r.slp r.rp r.mp r.inp r.rs
