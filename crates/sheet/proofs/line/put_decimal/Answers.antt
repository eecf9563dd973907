use Rattle.std.proofs.Common.{◌≡◌, ℕ, ◌+◌, ◌-◌, ◌/◌, ◌%◌, drop, sym, ap, ◌∙◌, subst, arith}
use Rattle.std.proofs.Math.ListN.{set}
use Rattle.hume.specs.Sheet.{digits, decimal}
use Rattle.sheet.specs.Lines.{Kept}
use Rattle.sheet.proofs.Lines.{kept_all, kept_front, more_digits, digits_none}
use Rattle.sheet.proofs.line.put_decimal.Goals as goal

pub loop-at-init : goal.loop-at-init
unfolding decimal
loop-at-init c =
    let ten : c.args.end - (c.args.end - 10) ≡ 10 = omega arith in
    record {
      low = omega arith;
      left = ap (λ (k : ℕ). digits k c.args.n (drop c.args.end c.args.line.now)) ten;
      kept = kept_all _ _;
    }

pub loop-at-preserved : goal.loop-at-preserved
loop-at-preserved c =
    let at = c.loop-at.at in
    let start = c.args.end - 10 in
    let rest = c.loop-at.rest in
    let fewer : at - 1 - start ≡ at - start - 1 = omega arith in
    record {
      low = omega arith;
      left =
          ap (λ (k : ℕ). digits k (rest / 10) (drop (at - 1) (set c.loop-at.line (at - 1) (48 + rest % 10)))) fewer
          ∙ more_digits c.loop-at.line at (at - start) rest (omega arith) (omega arith) (omega arith) (omega arith)
          ∙ c.loop-at.invariant.left;
      kept = kept_front _ _ _ _ c.loop-at.invariant.kept;
    }

pub returns : goal.returns
returns c =
    let start = c.args.end - 10 in
    let e : c.loop-at.at ≡ start = omega arith in
    record {
      is =
          ap (λ (k : ℕ). drop k c.loop-at.line) (sym e)
          ∙ sym (digits_none (c.loop-at.at - start) c.loop-at.rest (drop c.loop-at.at c.loop-at.line) (omega arith))
          ∙ c.loop-at.invariant.left;
      kept = subst (λ (k : ℕ). Kept c.args.line.now c.loop-at.line k) e c.loop-at.invariant.kept;
      low = omega arith;
      high = omega arith;
      sized = omega arith;
    }
