-- The two forms of a report.
use Rattle.std.specs.Prelude.{ℕ, ◌-◌, Ok, Err}
use Rattle.gate.specs.declared.refusals.Refusal.{Refusal}
use Rattle.engine.specs.declared.Ending.{Ending}
use Rattle.engine.specs.declared.Ending.TheVariants.{Finished}
use Rattle.engine.specs.declared.Report.{Report}
use Rattle.engine.specs.declared.regs.Regs.{Regs}

-- "the number with all figures 0"
abbrev pub refusal : Refusal → Report
refusal r =
    record { verdict = Err r; ending = Finished; pc = 0; steps = 0; time = 0; peak = 0; depth = 0; heap = 0 }

-- the figures of the registers, of so much time in all
abbrev pub ending : Ending → Regs → ℕ → Report
ending e s time =
    record {
      verdict = Ok tt;
      ending = e;
      pc = s.pc;
      steps = s.steps;
      time = time - s.left;
      peak = s.peak;
      depth = s.sp;
      heap = s.hp;
    }

-- "Registers start at 0"
abbrev pub beginning : ℕ → ℕ → Regs
beginning pc time =
    record {
      pc = pc;
      sp = 0;
      hp = 0;
      fp = 0;
      lp = 0;
      slp = 0;
      rp = 0;
      mp = 0;
      inp = 0;
      rs = 0;
      steps = 0;
      left = time;
      peak = 0;
    }
