use Rattle.engine.proofs.Trying.{available_none, available_tries}
use Rattle.engine.specs.Attempts.{faulty, tries}
use native.Mathlib.Omega.{arith}
use mathlib.Core.Path.{refl}
use Rattle.engine.proofs.regs.Regs.available.Goals as goal

pub returns-then-inputs-i : goal.returns-then-inputs-i
returns-then-inputs-i c =
    λ P st he or e. record { each = λ ws hs h m n. faulty 3 refl (available_none h _ or P (omega (arith, e, c.if-inputs-i.true))) }

pub returns : goal.returns
returns c =
    λ P st he or e. record { each = λ ws hs h m n. tries _ refl (available_tries h _ or P (omega (arith, e, c.if-inputs-i.false))) }
