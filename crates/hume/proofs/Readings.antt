-- The readings of docs/DECISIONS.md that a run shows, by computation: the figures of a call for each.
use mathlib.Core.Path.{◌≡◌, refl}
use mathlib.Core.List.{List, [], ◌∷◌, ◌++◌, map}
use Prim.Native.Nat.{ℕ}
use lib.ListN.{replicate}
use Rattle.hume.specs.Call.{Given}
use Rattle.hume.proofs.Build.{Set, Sum, sum, image, entered, plain, limits, given}
use Rattle.hume.proofs.Shown.{counted}
use Rattle.hume.proofs.Assembly.{mk_bool, mk_int, mk_float, mk_none, mk_tuple, mk_con, push, pop, slide, copy, copy_arg, create_frame, push_var, make_var, goto, if_true, call, returns, call_prim1, call_prim2, raises, start_matches, match_rule, matched_rule, match_none, match_available, match_bool, match_int, match_float, match_tuple, match_con, match_exn, unpack, reorder, copy_input, consume, maybe_consume, check_outputs, write, schedule}

-- time enough for any of these, and little enough that a wrong machine, which may go round, ends soon
abbrev run : List ℕ → List ℕ → List ℕ → Given
run m wires order = given m (limits 2000 4096 16384) wires order

-- an image of one ruleset with one rule at 0, and no wires
abbrev code : List (List ℕ) → Given
code c = run (plain c) [] (0 ∷ [])

-- rulesets 0 at 0 and 1 at `e`, one rule at 0 each; a handler or 255
abbrev code2 : ℕ → ℕ → List (List ℕ) → Given
code2 handler e c = run (image 0 0 handler (entered 0 ∷ entered e ∷ []) c) [] (0 ∷ 0 ∷ [])

abbrev rules : ℕ → List ℕ → Set
rules e l = record { entry = e; rules = l }

-- the rows' figures: ending, detail, pc, steps, time, peak, depth, heap of a call that isn't refused
abbrev ends : ℕ → ℕ → ℕ → ℕ → ℕ → ℕ → ℕ → ℕ → List ℕ
ends e d pc n t p sp hp = 0 ∷ e ∷ d ∷ pc ∷ n ∷ t ∷ p ∷ sp ∷ hp ∷ []

abbrev empty_wire : List ℕ
empty_wire = replicate 65 0

-- a wire with one Int
abbrev int_wire : ℕ → List ℕ
int_wire n = 2 ∷ 131072 ∷ n ∷ replicate 62 0

-- ---- the instructions

unfoldable pub stack_rows : List Sum
stack_rows =
    -- charging a fault is an error easily made: nothing is charged, and pc stays
    sum (code (mk_int 1 ∷ pop 2 ∷ schedule ∷ [])) (ends 2 1 1 1 10 1 1 2)
    -- Slide 0 and Copy 0 need a value; Push 0, Pop 0 and MkTuple 0 need none
    ∷ sum (code (slide 0 ∷ schedule ∷ [])) (ends 2 1 0 0 0 0 0 0)
    ∷ sum (code (copy 0 ∷ schedule ∷ [])) (ends 2 1 0 0 0 0 0 0)
    ∷ sum (code (push 0 ∷ pop 0 ∷ mk_tuple 0 ∷ schedule ∷ [])) (ends 0 0 3 4 40 1 1 2)
    -- a local is no value
    ∷ sum (code (push 3 ∷ create_frame 2 ∷ pop 1 ∷ schedule ∷ [])) (ends 2 1 2 2 20 6 6 0)
    -- MkTuple takes references and None, and no null
    ∷ sum (code (mk_none ∷ mk_int 1 ∷ mk_tuple 2 ∷ schedule ∷ [])) (ends 0 0 3 4 40 2 1 6)
    ∷ sum (code (push 1 ∷ mk_tuple 1 ∷ schedule ∷ [])) (ends 2 2 1 1 10 1 1 0)
    -- MkNone takes no heap
    ∷ sum (code (mk_none ∷ schedule ∷ [])) (ends 0 0 1 2 20 1 1 0)
    -- a local that was never set is null; there is no local n
    ∷ sum (code (push 3 ∷ create_frame 1 ∷ push_var 0 ∷ schedule ∷ [])) (ends 0 0 3 4 40 6 6 0)
    ∷ sum (code (push 3 ∷ create_frame 1 ∷ push_var 1 ∷ schedule ∷ [])) (ends 2 3 2 2 20 5 5 0)
    ∷ sum (code (mk_none ∷ make_var 0 ∷ schedule ∷ [])) (ends 2 3 1 1 10 1 1 0)
    -- two faults at once: the lowest
    ∷ sum (code (make_var 0 ∷ schedule ∷ [])) (ends 2 1 0 0 0 0 0 0)
    -- an argument below the stack; the words of a frame are met further down, and a frame link isn't copied
    ∷ sum (code (push 3 ∷ create_frame 0 ∷ copy_arg 0 ∷ schedule ∷ [])) (ends 2 3 2 2 20 4 4 0)
    ∷ sum (code (push 4 ∷ create_frame 0 ∷ copy_arg 0 ∷ schedule ∷ [])) (ends 0 0 3 4 40 6 6 0)
    ∷ sum (code (push 3 ∷ create_frame 0 ∷ push 3 ∷ create_frame 0 ∷ copy_arg 0 ∷ schedule ∷ [])) (ends 2 2 4 4 40 8 8 0)
    -- Copy moves any word: here a return address
    ∷ sum (code2 255 2 (call 1 ∷ schedule ∷ copy 2 ∷ goto 1 ∷ [])) (ends 0 0 1 4 40 4 4 0)
    -- CreateFrame needs 3 values, and looks at their types no more than Return does
    ∷ sum (code (push 2 ∷ create_frame 0 ∷ schedule ∷ [])) (ends 2 4 1 1 10 2 2 0)
    ∷ sum (code (push 3 ∷ create_frame 0 ∷ mk_none ∷ returns ∷ [])) (ends 2 4 3 3 30 5 5 0)
    ∷ sum (code (mk_none ∷ returns ∷ [])) (ends 2 4 1 1 10 1 1 0)
    ∷ sum (code (returns ∷ [])) (ends 2 1 0 0 0 0 0 0)
    ∷ []

unfoldable pub control_rows : List Sum
control_rows =
    -- If and a primitive take no None and no null; Unpack takes no None and no Exn
    sum (code (mk_none ∷ if_true 2 ∷ schedule ∷ [])) (ends 2 2 1 1 10 1 1 0)
    ∷ sum (code (push 1 ∷ call_prim1 1 ∷ schedule ∷ [])) (ends 2 2 1 1 10 1 1 0)
    ∷ sum (code (mk_none ∷ unpack ∷ schedule ∷ [])) (ends 2 2 1 1 10 1 1 0)
    ∷ sum (code2 1 2 (mk_none ∷ raises 7 ∷ copy_arg 0 ∷ unpack ∷ schedule ∷ [])) (ends 2 2 3 3 30 6 6 3)
    ∷ sum (code (mk_bool 1 ∷ if_true 3 ∷ goto 0 ∷ schedule ∷ [])) (ends 0 0 3 3 30 1 0 2)
    ∷ sum (code (mk_bool 0 ∷ if_true 0 ∷ schedule ∷ [])) (ends 0 0 2 3 30 1 0 2)
    -- Raise of nothing, of null; with no handler, though time is out too; with a handler and S below 5
    ∷ sum (code2 1 2 (raises 7 ∷ schedule ∷ schedule ∷ [])) (ends 2 1 0 0 0 0 0 0)
    ∷ sum (code2 1 2 (push 1 ∷ raises 7 ∷ schedule ∷ [])) (ends 2 2 1 1 10 1 1 0)
    ∷ sum (given (plain (mk_none ∷ raises 7 ∷ schedule ∷ [])) (limits 10 9 9) [] (0 ∷ [])) (ends 4 7 1 1 10 1 1 0)
    ∷ sum
    (given (image 0 0 1 (entered 0 ∷ entered 2 ∷ []) (mk_none ∷ raises 7 ∷ schedule ∷ [])) (limits 99 4 9) [] (0 ∷ 0 ∷ []))
    (ends 6 0 1 1 10 1 1 0)
    -- a raising primitive: its own time, 3 heap words, depth 5; wrong kinds come before a zero divisor
    ∷ sum (code2 1 3 (mk_int 0 ∷ mk_int 9 ∷ call_prim2 10 ∷ schedule ∷ [])) (ends 0 0 3 4 246 5 5 7)
    ∷ sum (code2 1 3 (mk_int 0 ∷ mk_none ∷ call_prim2 10 ∷ schedule ∷ [])) (ends 2 2 2 2 20 2 2 2)
    -- a Return out of a handler finds nulls, not saved words
    ∷ sum (code2 1 2 (mk_none ∷ raises 7 ∷ mk_none ∷ returns ∷ [])) (ends 2 4 3 3 30 6 6 3)
    -- && looks at both operands
    ∷ sum (code (mk_int 1 ∷ mk_bool 0 ∷ call_prim2 12 ∷ schedule ∷ [])) (ends 2 2 2 2 20 2 2 4)
    ∷ []

-- a function of two rules in ruleset 1, called with the Ints 3 and 4, of which 4 is argument 0
abbrev called : List (List ℕ) → ℕ → List ℕ → Given
called body e l =
    run (image 0 0 255 (entered 0 ∷ rules e l ∷ []) (mk_int 3 ∷ mk_int 4 ∷ call 1 ∷ schedule ∷ body)) [] (0 ∷ 0 ∷ 1 ∷ [])

-- a handler entered at 2, whose rule is at 4
abbrev handled : List (List ℕ) → Given
handled c = run (image 0 0 1 (entered 0 ∷ rules 2 (4 ∷ []) ∷ []) c) [] (0 ∷ 0 ∷ [])

unfoldable pub match_rows : List Sum
match_rows =
    -- mp one off from CopyArg is an error easily made: argument 0 is 4, argument 1 is 3
    sum
    (called (create_frame 0 ∷ start_matches ∷ match_rule ∷ match_int 4 ∷ match_int 3 ∷ copy_arg 1 ∷ returns ∷ []) 4 (6 ∷ 6 ∷ []))
    (ends 0 0 3 11 110 7 3 4)
    -- mp moves on where a match fails: the next rule sees argument 1
    ∷ sum
    (called (create_frame 0 ∷ start_matches ∷ match_rule ∷ match_int 9 ∷ match_int 3 ∷ goto 3 ∷ []) 4 (6 ∷ 8 ∷ []))
    (ends 0 0 3 10 100 6 6 4)
    -- no rule is left after a failed match; a fault comes before that; MatchRule with rp at the count
    ∷ sum (called (create_frame 0 ∷ match_rule ∷ match_rule ∷ match_int 9 ∷ goto 3 ∷ []) 4 (5 ∷ 6 ∷ [])) (ends 3 0 7 6 60 6 6 4)
    ∷ sum
    (called (create_frame 0 ∷ match_rule ∷ match_rule ∷ match_int 4 ∷ match_int 3 ∷ match_int 3 ∷ goto 3 ∷ []) 4 (5 ∷ 6 ∷ []))
    (ends 2 3 9 8 80 6 6 4)
    ∷ sum (called (create_frame 0 ∷ match_rule ∷ match_rule ∷ match_rule ∷ goto 3 ∷ []) 4 (5 ∷ 6 ∷ [])) (ends 2 7 7 6 60 6 6 4)
    -- a matched word is a reference or None: null is a fault, None and another kind only fail
    ∷ sum (code (push 4 ∷ create_frame 0 ∷ match_int 4 ∷ schedule ∷ [])) (ends 2 2 2 2 20 5 5 0)
    ∷ sum (code (match_rule ∷ mk_none ∷ push 3 ∷ create_frame 0 ∷ match_int 4 ∷ schedule ∷ [])) (ends 3 0 4 4 40 5 5 0)
    ∷ sum (code (match_rule ∷ mk_bool 1 ∷ push 3 ∷ create_frame 0 ∷ match_int 1 ∷ schedule ∷ [])) (ends 3 0 4 4 40 5 5 2)
    -- MatchFloat goes by bits: 0 isn't -0; a NaN c is read as 7FC00000; ==.f of 0 and -0 is true, of NaN false
    ∷ sum
    (code (mk_float 0x7F800001 ∷ push 3 ∷ create_frame 0 ∷ match_float 0xFFFFFFFF ∷ schedule ∷ []))
    (ends 0 0 4 5 50 5 5 2)
    ∷ sum
    (code (match_rule ∷ mk_float 0 ∷ push 3 ∷ create_frame 0 ∷ match_float 0x80000000 ∷ schedule ∷ []))
    (ends 3 0 4 4 40 5 5 2)
    ∷ sum (code (mk_float 0 ∷ mk_float 0x80000000 ∷ call_prim2 14 ∷ if_true 4 ∷ schedule ∷ [])) (ends 0 0 4 5 175 2 0 6)
    ∷ sum (code (mk_float 0x7FC00000 ∷ copy 0 ∷ call_prim2 14 ∷ if_true 0 ∷ schedule ∷ [])) (ends 0 0 4 5 175 2 0 4)
    -- the other kinds: a Bool's payload, a Tuple's size, a Constr's tag and an Exn's number decide
    ∷ sum (code (mk_bool 1 ∷ push 3 ∷ create_frame 0 ∷ match_bool 1 ∷ schedule ∷ [])) (ends 0 0 4 5 50 5 5 2)
    ∷ sum (code (mk_tuple 0 ∷ push 3 ∷ create_frame 0 ∷ match_tuple 0 ∷ schedule ∷ [])) (ends 0 0 4 5 50 5 5 2)
    ∷ sum (code (match_rule ∷ mk_tuple 0 ∷ push 3 ∷ create_frame 0 ∷ match_tuple 1 ∷ schedule ∷ [])) (ends 3 0 4 4 40 5 5 2)
    ∷ sum (code (mk_con 0 5 ∷ push 3 ∷ create_frame 0 ∷ match_con 0 5 ∷ schedule ∷ [])) (ends 0 0 4 5 50 5 5 2)
    ∷ sum (code (match_rule ∷ mk_con 0 5 ∷ push 3 ∷ create_frame 0 ∷ match_con 0 6 ∷ schedule ∷ [])) (ends 3 0 4 4 40 5 5 2)
    ∷ sum (handled (mk_none ∷ raises 7 ∷ match_exn 7 ∷ schedule ∷ schedule ∷ [])) (ends 0 0 3 4 40 5 5 3)
    ∷ sum (handled (mk_none ∷ raises 7 ∷ match_exn 8 ∷ schedule ∷ schedule ∷ [])) (ends 0 0 4 4 40 5 5 3)
    -- MatchNone has no last argument and no last input
    ∷ sum (code (match_none ∷ match_none ∷ match_none ∷ schedule ∷ [])) (ends 0 0 3 4 40 0 0 0)
    -- MatchRule between Call and CreateFrame drops the saved words; locals stay over MatchRule and MatchedRule
    ∷ sum (called (match_rule ∷ create_frame 0 ∷ schedule ∷ []) 4 (4 ∷ 4 ∷ [])) (ends 2 4 5 4 40 5 0 4)
    ∷ sum
    (code (push 3 ∷ create_frame 2 ∷ mk_none ∷ make_var 1 ∷ mk_none ∷ matched_rule ∷ push_var 1 ∷ schedule ∷ []))
    (ends 0 0 7 8 80 7 7 0)
    ∷ []

-- two rules; inputs 2, of which the second is empty
abbrev boxed : List (List ℕ) → List ℕ → List ℕ → Given
boxed c l order = run (image 2 0 255 (rules 0 l ∷ []) c) (int_wire 9 ++ empty_wire) order

-- one output
abbrev output : List ℕ → List (List ℕ) → Given
output wire c = run (image 0 1 255 (entered 0 ∷ []) c) wire (0 ∷ [])

abbrev outputs : List ℕ → List (List ℕ) → Given
outputs wires c = run (image 0 2 255 (entered 0 ∷ []) c) wires (0 ∷ [])

-- nested Tuples of one field around the Int 7: n of them spread to 2 * n + 2 words
abbrev nested : ℕ → List (List ℕ)
nested n = mk_int 7 ∷ replicate n (mk_tuple 1)

unfoldable pub wire_rows : List Sum
wire_rows =
    -- MatchAvailable looks at input inp and then moves inp on, where it fails too: the next rule finds no input 2
    sum
    (boxed (start_matches ∷ match_rule ∷ match_available ∷ match_available ∷ match_available ∷ schedule ∷ []) (1 ∷ 4 ∷ []) (0 ∷ 1 ∷ []))
    (ends 2 3 4 4 40 0 0 0)
    -- an order word is the rule that is tried at that position
    ∷ sum
    (boxed (start_matches ∷ match_rule ∷ match_available ∷ match_available ∷ schedule ∷ []) (1 ∷ 4 ∷ []) (1 ∷ 0 ∷ []))
    (ends 0 0 4 2 20 0 0 0)
    -- Reorder moves the rule at position rp to the end, and nothing with rp at the count
    ∷ sum (boxed (reorder ∷ start_matches ∷ goto 2 ∷ schedule ∷ []) (2 ∷ 3 ∷ []) (0 ∷ 1 ∷ [])) (ends 0 0 3 3 30 0 0 0)
    ∷ sum
    (boxed (match_rule ∷ match_rule ∷ reorder ∷ start_matches ∷ goto 4 ∷ schedule ∷ []) (5 ∷ 4 ∷ []) (0 ∷ 1 ∷ []))
    (ends 0 0 5 5 50 0 0 0)
    -- Consume of an empty wire is nothing; CopyInput of one is fault 8
    ∷ sum (boxed (consume 1 ∷ maybe_consume 1 ∷ copy_input 1 ∷ schedule ∷ []) (0 ∷ 0 ∷ []) (0 ∷ 1 ∷ [])) (ends 2 8 2 2 20 0 0 0)
    -- reading "available" the wrong way is an error easily made: a full wire blocks, an empty one doesn't
    ∷ sum (output (int_wire 5) (mk_int 1 ∷ check_outputs ∷ write 0 ∷ schedule ∷ [])) (ends 1 0 1 1 10 1 1 2)
    ∷ sum (output empty_wire (mk_int 1 ∷ check_outputs ∷ write 0 ∷ schedule ∷ [])) (ends 0 0 3 4 40 1 0 2)
    -- one output too many is an error easily made: one value is enough for one output
    ∷ sum (output empty_wire (mk_none ∷ check_outputs ∷ schedule ∷ [])) (ends 0 0 2 3 30 1 1 0)
    ∷ sum (outputs (empty_wire ++ empty_wire) (mk_none ∷ check_outputs ∷ schedule ∷ [])) (ends 2 1 1 1 10 1 1 0)
    -- the lowest that is blocked, and None isn't; a wrong word comes before a blocked output
    ∷ sum (outputs (int_wire 5 ++ int_wire 5) (mk_int 1 ∷ mk_none ∷ check_outputs ∷ schedule ∷ [])) (ends 1 1 2 2 20 2 2 2)
    ∷ sum (outputs (int_wire 5 ++ int_wire 5) (mk_int 1 ∷ copy 0 ∷ check_outputs ∷ schedule ∷ [])) (ends 1 0 2 2 20 2 2 2)
    ∷ sum (outputs (int_wire 5 ++ empty_wire) (push 1 ∷ mk_int 1 ∷ check_outputs ∷ schedule ∷ [])) (ends 2 2 2 2 20 2 2 2)
    -- None to a full wire writes nothing; a reference to a full wire is fault 5, though it is too long as well
    ∷ sum (output (int_wire 5) (mk_none ∷ write 0 ∷ schedule ∷ [])) (ends 0 0 2 3 30 1 0 0)
    ∷ sum (output (int_wire 5) (nested 32 ++ write 0 ∷ schedule ∷ [])) (ends 2 5 33 33 330 1 1 98)
    -- 64 words fit a wire and 66 don't
    ∷ sum (output empty_wire (nested 31 ++ write 0 ∷ schedule ∷ [])) (ends 0 0 33 34 340 1 0 95)
    ∷ sum (output empty_wire (nested 32 ++ write 0 ∷ schedule ∷ [])) (ends 2 6 33 33 330 1 1 98)
    ∷ []

pub stack_table : map (λ s. counted s.call) stack_rows ≡ map (λ s. s.shows) stack_rows
unfolding stack_rows counted
stack_table = refl

pub control_table : map (λ s. counted s.call) control_rows ≡ map (λ s. s.shows) control_rows
unfolding control_rows counted
control_table = refl

pub match_table : map (λ s. counted s.call) match_rows ≡ map (λ s. s.shows) match_rows
unfolding match_rows counted
match_table = refl

pub wire_table : map (λ s. counted s.call) wire_rows ≡ map (λ s. s.shows) wire_rows
unfolding wire_rows counted
wire_table = refl
