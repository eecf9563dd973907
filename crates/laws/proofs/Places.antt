-- How far the ruleset table and the rule order of any bytes go.
use Prim.Native.Nat.{ℕ, zero, suc, ◌+◌, ◌*◌, ◌≤◌, ◌<◌}
use mathlib.Core.List.{List}
use native.Mathlib.Omega.{arith}
use Rattle.hume.specs.Image.{program, byte, ruleset_at, order_at}
use Rattle.laws.specs.Accepted.{Bytes}

pub ruleset_most : (m : List ℕ) → Bytes m → (k : ℕ) → ruleset_at m k ≤ 11 + 513 * k
unfolding ruleset_at
ruleset_most m b zero = omega arith
ruleset_most m b (suc k) =
    let h : ruleset_at m k ≤ 11 + 513 * k = ruleset_most m b k in
    let n : byte m (ruleset_at m k + 2) < 256 = b.each (ruleset_at m k + 2) in
    omega arith

pub order_most : (m : List ℕ) → Bytes m → (k : ℕ) → order_at (program m) k ≤ 255 * k
unfolding order_at program
order_most m b zero = omega arith
order_most m b (suc k) =
    let h : order_at (program m) k ≤ 255 * k = order_most m b k in
    let n : byte m (ruleset_at m k + 2) < 256 = b.each (ruleset_at m k + 2) in
    omega arith
