use Rattle.engine.proofs.Steering.{framed_low, framed_no_ret, framed_no_rules, framed_no_static, framed_link}
use Rattle.engine.proofs.control.has_frame.Goals as goal

pub returns-then-fp-lt4 : goal.returns-then-fp-lt4
returns-then-fp-lt4 c = framed_low _ _ c.if-fp-lt4.true

pub returns-then-stack-fp : goal.returns-then-stack-fp
returns-then-stack-fp c = framed_no_ret _ _ c.if-fp-lt4.false c.if-stack-fp.true

pub returns-then-stack-fp-2 : goal.returns-then-stack-fp-2
returns-then-stack-fp-2 c = framed_no_rules _ _ c.if-fp-lt4.false c.if-stack-fp.false c.if-stack-fp-2.true

pub returns-then-stack-fp-3 : goal.returns-then-stack-fp-3
returns-then-stack-fp-3 c =
    framed_no_static _ _ c.if-fp-lt4.false c.if-stack-fp.false c.if-stack-fp-2.false c.if-stack-fp-3.true

pub returns : goal.returns
returns c =
    framed_link _ _ c.if-fp-lt4.false c.if-stack-fp.false c.if-stack-fp-2.false c.if-stack-fp-3.false
