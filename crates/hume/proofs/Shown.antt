-- What the answer to a call shows, with every definition open, so that a sum is computed.
use mathlib.Core.List.{List, [], ◌∷◌, ◌++◌}
use Prim.Native.Nat.{ℕ}
use lib.ListN.{take}
use Rattle.limits.specs.Machine.{limited}
use Rattle.hume.specs.Tests.{pick, every, all, same}
use Rattle.hume.specs.Words.{bits, raw, is_null, is_ref, is_none, is_value}
use Rattle.hume.specs.Numbers.{canonical, add_int, sub_int, mul_int, div_int, mod_int, lt_int, le_int}
use Rattle.hume.specs.Numbers.{add_float, sub_float, mul_float, div_float, eq_float, lt_float, le_float, to_float, to_int}
use Rattle.hume.specs.Primitives.{divided, converted, is_true, one_operand, two_operands, prim1, prim2}
use Rattle.hume.specs.Values.{atom_ok, block_ok, good, prefix, row, one_value, placed, fields_by, body_by, word_by, spread_to, spread, wire_count, wire_words, is_empty, set_wire, wire_ok}
use Rattle.hume.specs.Image.{byte, half, full, ruleset_at, code_at, total_length, version, program, order_at}
use Rattle.hume.specs.Refusals.{field_ok, format, opcode_ok, format_of, length_ok, version_ok, counts_ok, ruleset_ok, instruction_ok, last_ok, code_ok, unless, image_refusal, card_ok, limits_ok, wires_ok, among, permutation, order_of, order_ok}
use Rattle.hume.specs.State.{locals, lp, values, below, downward, without, number_at, is_cell, second, rule_at, rule_count, need, fails, raise}
use Rattle.hume.specs.Instructions.{MkBool, MkInt, MkFloat, MkNone, mk_block, MkTuple, MkCon, Push, Pop, Slide, Copy, argument, has_argument, CopyArg, CreateFrame, has_local, PushVar, MakeVar, Goto, If, Call, saved, frame_ok, Return, yielded, operand, operand_ok, CallPrim1, CallPrim2, Raise}
use Rattle.hume.specs.Instructions.{StartMatches, MatchRule, MatchedRule, MatchNone, MatchAvailable, matches, cell_is, MatchBool, MatchInt, MatchFloat, MatchTuple, MatchCon, MatchExn, is_tuple_or_constr, Unpack, move_last, reordered, Reorder, CopyInput, Consume, MaybeConsume, output_at, holds_up, checked, CheckOutputs, Write, Schedule, instructions}
use Rattle.hume.specs.Machine.{instruction, deed, charged, price, acts, machine, start}
use Rattle.hume.specs.Call.{Given, Answer, ending_of, detail_of, figures_of, area, outcome, ran, refused, lent_refusal, first_of, refusal, answer_by, answer}
use Rattle.hume.specs.Sheet.{image_readable, image_read, sheet_read, sheet_word, sheet_words, sheet_length, sheet_ok, counting, first_order, sheet_given, sheet_refusal, parts_refusal, program_refusal, digits, decimal, figures_line, refused_line, printed_by, printed}

-- the refusal, the eight figures, the words in use of both areas, the wires and the order
unfoldable pub shown : Answer → List ℕ
shown r =
    let f = r.figures in
    r.refusal
    ∷ f.ending
    ∷ f.detail
    ∷ f.pc
    ∷ f.steps
    ∷ f.time
    ∷ f.peak
    ∷ f.depth
    ∷ f.heap
    ∷ take f.depth r.stack
    ++ take f.heap r.heap
    ++ r.wires
    ++ r.order

-- the refusal and the eight figures
unfoldable pub figured : Answer → List ℕ
figured r =
    let f = r.figures in
    r.refusal ∷ f.ending ∷ f.detail ∷ f.pc ∷ f.steps ∷ f.time ∷ f.peak ∷ f.depth ∷ f.heap ∷ []

unfoldable pub seen : Given → List ℕ
unfolding shown limited pick every all same bits raw is_null is_ref is_none is_value canonical add_int sub_int mul_int div_int mod_int lt_int le_int add_float sub_float mul_float div_float eq_float lt_float le_float to_float to_int divided converted is_true one_operand two_operands prim1 prim2 atom_ok block_ok good prefix row one_value placed fields_by body_by word_by spread_to spread wire_count wire_words is_empty set_wire wire_ok byte half full ruleset_at code_at total_length version program order_at field_ok format opcode_ok format_of length_ok version_ok counts_ok ruleset_ok instruction_ok last_ok code_ok unless image_refusal card_ok limits_ok wires_ok among permutation order_of order_ok locals lp values below downward without number_at is_cell second rule_at rule_count need fails raise MkBool MkInt MkFloat MkNone mk_block MkTuple MkCon Push Pop Slide Copy argument has_argument CopyArg CreateFrame has_local PushVar MakeVar Goto If Call saved frame_ok Return yielded operand operand_ok CallPrim1 CallPrim2 Raise StartMatches MatchRule MatchedRule MatchNone MatchAvailable matches cell_is MatchBool MatchInt MatchFloat MatchTuple MatchCon MatchExn is_tuple_or_constr Unpack move_last reordered Reorder CopyInput Consume MaybeConsume output_at holds_up checked CheckOutputs Write Schedule instructions instruction deed charged price acts machine start ending_of detail_of figures_of area outcome ran refused lent_refusal first_of refusal answer_by answer
seen g = shown (answer g)

unfoldable pub counted : Given → List ℕ
unfolding seen figured
counted g = figured (answer g)

-- what the program writes
unfoldable pub told : List ℕ → List ℕ
unfolding seen image_readable image_read sheet_read sheet_word sheet_words sheet_length sheet_ok counting first_order sheet_given sheet_refusal parts_refusal program_refusal digits decimal figures_line refused_line printed_by printed
told bytes = printed bytes
