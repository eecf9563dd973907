-- Which instruction an opcode is.
use mathlib.Core.Path.{◌≡◌}
use Prim.Native.Nat.{ℕ}
use Rattle.hume.specs.Image.{Program}
use Rattle.hume.specs.State.{State}
use Rattle.hume.specs.Instructions.{instructions}
use Rattle.hume.specs.Instructions.{Call, CallPrim1, CallPrim2, CheckOutputs, Consume, Copy, CopyArg, CopyInput, CreateFrame, Goto, If, MakeVar, MatchAvailable, MatchBool, MatchCon, MatchExn, MatchFloat, MatchInt, MatchNone, MatchRule, MatchTuple, MatchedRule, MaybeConsume, MkBool, MkCon, MkFloat, MkInt, MkNone, MkTuple, Pop, Push, PushVar, Raise, Reorder, Return, Schedule, Slide, StartMatches, Unpack, Write}
use Rattle.hume.specs.Machine.{instruction}

module _ (op : ℕ) (P : Program) (a b c : ℕ) (s : State) where
  pub op_1 : op ≡ 1 → instruction op P a b c s ≡ MkBool c s
  unfolding instruction instructions
  op_1 e = rw e

  pub op_2 : op ≡ 2 → instruction op P a b c s ≡ MkInt c s
  unfolding instruction instructions
  op_2 e = rw e

  pub op_3 : op ≡ 3 → instruction op P a b c s ≡ MkFloat c s
  unfolding instruction instructions
  op_3 e = rw e

  pub op_4 : op ≡ 4 → instruction op P a b c s ≡ MkNone s
  unfolding instruction instructions
  op_4 e = rw e

  pub op_5 : op ≡ 5 → instruction op P a b c s ≡ MkTuple a s
  unfolding instruction instructions
  op_5 e = rw e

  pub op_6 : op ≡ 6 → instruction op P a b c s ≡ MkCon a b s
  unfolding instruction instructions
  op_6 e = rw e

  pub op_7 : op ≡ 7 → instruction op P a b c s ≡ Push a s
  unfolding instruction instructions
  op_7 e = rw e

  pub op_8 : op ≡ 8 → instruction op P a b c s ≡ Pop a s
  unfolding instruction instructions
  op_8 e = rw e

  pub op_9 : op ≡ 9 → instruction op P a b c s ≡ Slide a s
  unfolding instruction instructions
  op_9 e = rw e

  pub op_10 : op ≡ 10 → instruction op P a b c s ≡ Copy a s
  unfolding instruction instructions
  op_10 e = rw e

  pub op_11 : op ≡ 11 → instruction op P a b c s ≡ CopyArg a s
  unfolding instruction instructions
  op_11 e = rw e

  pub op_12 : op ≡ 12 → instruction op P a b c s ≡ CreateFrame a s
  unfolding instruction instructions
  op_12 e = rw e

  pub op_13 : op ≡ 13 → instruction op P a b c s ≡ PushVar a s
  unfolding instruction instructions
  op_13 e = rw e

  pub op_14 : op ≡ 14 → instruction op P a b c s ≡ MakeVar a s
  unfolding instruction instructions
  op_14 e = rw e

  pub op_15 : op ≡ 15 → instruction op P a b c s ≡ Goto b s
  unfolding instruction instructions
  op_15 e = rw e

  pub op_16 : op ≡ 16 → instruction op P a b c s ≡ If b s
  unfolding instruction instructions
  op_16 e = rw e

  pub op_17 : op ≡ 17 → instruction op P a b c s ≡ Call P a s
  unfolding instruction instructions
  op_17 e = rw e

  pub op_18 : op ≡ 18 → instruction op P a b c s ≡ Return s
  unfolding instruction instructions
  op_18 e = rw e

  pub op_19 : op ≡ 19 → instruction op P a b c s ≡ CallPrim1 P a s
  unfolding instruction instructions
  op_19 e = rw e

  pub op_20 : op ≡ 20 → instruction op P a b c s ≡ CallPrim2 P a s
  unfolding instruction instructions
  op_20 e = rw e

  pub op_21 : op ≡ 21 → instruction op P a b c s ≡ Raise P b s
  unfolding instruction instructions
  op_21 e = rw e

  pub op_22 : op ≡ 22 → instruction op P a b c s ≡ StartMatches P s
  unfolding instruction instructions
  op_22 e = rw e

  pub op_23 : op ≡ 23 → instruction op P a b c s ≡ MatchRule P s
  unfolding instruction instructions
  op_23 e = rw e

  pub op_24 : op ≡ 24 → instruction op P a b c s ≡ MatchedRule s
  unfolding instruction instructions
  op_24 e = rw e

  pub op_25 : op ≡ 25 → instruction op P a b c s ≡ MatchNone s
  unfolding instruction instructions
  op_25 e = rw e

  pub op_26 : op ≡ 26 → instruction op P a b c s ≡ MatchAvailable P s
  unfolding instruction instructions
  op_26 e = rw e

  pub op_27 : op ≡ 27 → instruction op P a b c s ≡ MatchBool P c s
  unfolding instruction instructions
  op_27 e = rw e

  pub op_28 : op ≡ 28 → instruction op P a b c s ≡ MatchInt P c s
  unfolding instruction instructions
  op_28 e = rw e

  pub op_29 : op ≡ 29 → instruction op P a b c s ≡ MatchFloat P c s
  unfolding instruction instructions
  op_29 e = rw e

  pub op_30 : op ≡ 30 → instruction op P a b c s ≡ MatchTuple P a s
  unfolding instruction instructions
  op_30 e = rw e

  pub op_31 : op ≡ 31 → instruction op P a b c s ≡ MatchCon P a b s
  unfolding instruction instructions
  op_31 e = rw e

  pub op_32 : op ≡ 32 → instruction op P a b c s ≡ MatchExn P b s
  unfolding instruction instructions
  op_32 e = rw e

  pub op_33 : op ≡ 33 → instruction op P a b c s ≡ Unpack s
  unfolding instruction instructions
  op_33 e = rw e

  pub op_34 : op ≡ 34 → instruction op P a b c s ≡ Reorder P s
  unfolding instruction instructions
  op_34 e = rw e

  pub op_35 : op ≡ 35 → instruction op P a b c s ≡ CopyInput a s
  unfolding instruction instructions
  op_35 e = rw e

  pub op_36 : op ≡ 36 → instruction op P a b c s ≡ Consume a s
  unfolding instruction instructions
  op_36 e = rw e

  pub op_37 : op ≡ 37 → instruction op P a b c s ≡ MaybeConsume a s
  unfolding instruction instructions
  op_37 e = rw e

  pub op_38 : op ≡ 38 → instruction op P a b c s ≡ CheckOutputs P s
  unfolding instruction instructions
  op_38 e = rw e

  pub op_39 : op ≡ 39 → instruction op P a b c s ≡ Write P a s
  unfolding instruction instructions
  op_39 e = rw e

  pub op_40 : op ≡ 40 → instruction op P a b c s ≡ Schedule s
  unfolding instruction instructions
  op_40 e = rw e
