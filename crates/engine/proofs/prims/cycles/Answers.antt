use native.Mathlib.Omega.{arith}
use Rattle.engine.proofs.Yielding.{cycles_length, cycles_one, cycles_two}
use Rattle.engine.proofs.prims.cycles.Goals as goal

pub bounds-table-a : goal.bounds-table-a
bounds-table-a c =
    let p = c.requires.applies.one c.in-19.is in omega (arith, p.0, p.1, cycles_length c.requires.table_value)

pub bounds-table-a-in-20 : goal.bounds-table-a-in-20
bounds-table-a-in-20 c =
    let p = c.requires.applies.two c.in-20.is in omega (arith, p.0, p.1, cycles_length c.requires.table_value)

pub returns-in-19 : goal.returns-in-19
returns-in-19 c =
    let p = c.requires.applies.one c.in-19.is in
    record {
      one = λ e. cycles_one c.requires.table_value _ p.0 p.1;
      two = λ e. absurd (let z : ⊥ = omega (arith, e, c.in-19.is) in z);
      three = λ e. absurd (let z : ⊥ = omega (arith, e, c.in-19.is) in z);
    }

pub returns-in-20 : goal.returns-in-20
returns-in-20 c =
    let p = c.requires.applies.two c.in-20.is in
    record {
      one = λ e. absurd (let z : ⊥ = omega (arith, e, c.in-20.is) in z);
      two = λ e. cycles_two c.requires.table_value _ p.0 p.1;
      three = λ e. absurd (let z : ⊥ = omega (arith, e, c.in-20.is) in z);
    }
