-- The 40 instructions as bytes, named as in D04, for worked sums.
use mathlib.Core.List.{List}
use Prim.Native.Nat.{ℕ}
use Rattle.hume.proofs.Build.{instr}

abbrev pub mk_bool : ℕ → List ℕ
mk_bool c = instr 1 0 0 c

abbrev pub mk_int : ℕ → List ℕ
mk_int c = instr 2 0 0 c

abbrev pub mk_float : ℕ → List ℕ
mk_float c = instr 3 0 0 c

abbrev pub mk_none : List ℕ
mk_none = instr 4 0 0 0

abbrev pub mk_tuple : ℕ → List ℕ
mk_tuple a = instr 5 a 0 0

abbrev pub mk_con : ℕ → ℕ → List ℕ
mk_con a b = instr 6 a b 0

abbrev pub push : ℕ → List ℕ
push a = instr 7 a 0 0

abbrev pub pop : ℕ → List ℕ
pop a = instr 8 a 0 0

abbrev pub slide : ℕ → List ℕ
slide a = instr 9 a 0 0

abbrev pub copy : ℕ → List ℕ
copy a = instr 10 a 0 0

abbrev pub copy_arg : ℕ → List ℕ
copy_arg a = instr 11 a 0 0

abbrev pub create_frame : ℕ → List ℕ
create_frame a = instr 12 a 0 0

abbrev pub push_var : ℕ → List ℕ
push_var a = instr 13 a 0 0

abbrev pub make_var : ℕ → List ℕ
make_var a = instr 14 a 0 0

abbrev pub goto : ℕ → List ℕ
goto b = instr 15 0 b 0

abbrev pub if_true : ℕ → List ℕ
if_true b = instr 16 0 b 0

abbrev pub call : ℕ → List ℕ
call a = instr 17 a 0 0

abbrev pub returns : List ℕ
returns = instr 18 0 0 0

abbrev pub call_prim1 : ℕ → List ℕ
call_prim1 a = instr 19 a 0 0

abbrev pub call_prim2 : ℕ → List ℕ
call_prim2 a = instr 20 a 0 0

abbrev pub raises : ℕ → List ℕ
raises b = instr 21 0 b 0

abbrev pub start_matches : List ℕ
start_matches = instr 22 0 0 0

abbrev pub match_rule : List ℕ
match_rule = instr 23 0 0 0

abbrev pub matched_rule : List ℕ
matched_rule = instr 24 0 0 0

abbrev pub match_none : List ℕ
match_none = instr 25 0 0 0

abbrev pub match_available : List ℕ
match_available = instr 26 0 0 0

abbrev pub match_bool : ℕ → List ℕ
match_bool c = instr 27 0 0 c

abbrev pub match_int : ℕ → List ℕ
match_int c = instr 28 0 0 c

abbrev pub match_float : ℕ → List ℕ
match_float c = instr 29 0 0 c

abbrev pub match_tuple : ℕ → List ℕ
match_tuple a = instr 30 a 0 0

abbrev pub match_con : ℕ → ℕ → List ℕ
match_con a b = instr 31 a b 0

abbrev pub match_exn : ℕ → List ℕ
match_exn b = instr 32 0 b 0

abbrev pub unpack : List ℕ
unpack = instr 33 0 0 0

abbrev pub reorder : List ℕ
reorder = instr 34 0 0 0

abbrev pub copy_input : ℕ → List ℕ
copy_input a = instr 35 a 0 0

abbrev pub consume : ℕ → List ℕ
consume a = instr 36 a 0 0

abbrev pub maybe_consume : ℕ → List ℕ
maybe_consume a = instr 37 a 0 0

abbrev pub check_outputs : List ℕ
check_outputs = instr 38 0 0 0

abbrev pub write : ℕ → List ℕ
write a = instr 39 a 0 0

abbrev pub schedule : List ℕ
schedule = instr 40 0 0 0
