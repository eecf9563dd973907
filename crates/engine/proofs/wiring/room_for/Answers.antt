use mathlib.Core.Path.{◌≡◌, refl, sym, ◌∙◌}
use mathlib.Core.Bool.{true}
use borrow.Author.Tests.{not-true, not-false}
use Rattle.hume.specs.Words.{is_value}
use Rattle.engine.proofs.Reading.{spread_some}
use Rattle.engine.proofs.Writing.{wire_back, offered_reads, room_other, room_none, room_full, room_over, room_fits, put_none, spread_few, spread_over, spread_long, spread_fits, spread_put}
use Rattle.engine.proofs.wiring.room_for.Goals as goal

pub returns-then-not-is_value : goal.returns-then-not-is_value
returns-then-not-is_value c =
    record {
      value = λ k. room_other k _ (sym (c.is_value.ensures k.word k.is k.small) ∙ not-true _ c.if-not-is_value.true-raw);
      wires_after = λ k. sym (put_none _ _ refl);
    }

pub returns-then-w-eq-NONE : goal.returns-then-w-eq-NONE
returns-then-w-eq-NONE c =
    record {
      value = λ k. room_none k _ (sym (c.is_value.ensures k.word k.is k.small) ∙ not-false _ c.if-not-is_value.false-raw) c.if-w-eq-NONE.true;
      wires_after = λ k. sym (put_none _ _ refl);
    }

pub returns-then-wires-at-ne0 : goal.returns-then-wires-at-ne0
returns-then-wires-at-ne0 c =
    record {
      value = λ k. room_full k _ (sym (c.is_value.ensures k.word k.is k.small) ∙ not-false _ c.if-not-is_value.false-raw) c.if-w-eq-NONE.false c.if-wires-at-ne0.true;
      wires_after = λ k. sym (put_none _ _ refl);
    }

pub spread-requires-clause-readable : goal.spread-requires-clause-readable
spread-requires-clause-readable c =
    let k = c.requires.offered in
    offered_reads k (sym (c.is_value.ensures k.word k.is k.small) ∙ not-false _ c.if-not-is_value.false-raw)

pub returns-in_default : goal.returns-in_default
returns-in_default c =
    record {
      value = λ k.
          let v : is_value k.word ≡ true = sym (c.is_value.ensures k.word k.is k.small) ∙ not-false _ c.if-not-is_value.false-raw in
          room_over k _ v c.if-w-eq-NONE.false c.if-wires-at-ne0.false (spread_over _ _ (c.spread.ensures (offered_reads k v)) c.in_default.is);
      wires_after = λ k.
          let v : is_value k.word ≡ true = sym (c.is_value.ensures k.word k.is k.small) ∙ not-false _ c.if-not-is_value.false-raw in
          let s = c.spread.ensures (offered_reads k v) in
          c.clear_wire.ensures
          ∙ wire_back c.requires.wire_fits c.if-wires-at-ne0.false s.written (spread_few _ _ s) s.wires_is
          ∙ sym (put_none _ _ refl);
    }

pub returns : goal.returns
returns c =
    record {
      value = λ k.
          let v : is_value k.word ≡ true = sym (c.is_value.ensures k.word k.is k.small) ∙ not-false _ c.if-not-is_value.false-raw in
          let s = c.spread.ensures (offered_reads k v) in
          room_fits k _ v c.if-w-eq-NONE.false c.if-wires-at-ne0.false (spread_long _ _ s c.in-Some.is) (spread_fits _ _ s c.in-Some.is);
      wires_after = λ k.
          let v : is_value k.word ≡ true = sym (c.is_value.ensures k.word k.is k.small) ∙ not-false _ c.if-not-is_value.false-raw in
          spread_put _ _ (c.spread.ensures (offered_reads k v)) c.in-Some.is (spread_some k.words k.word);
    }
