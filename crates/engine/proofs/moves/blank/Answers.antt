use Rattle.std.proofs.Common.{List, rules, sym, ap, ◌∙◌, ◌+◌, ◌-◌, ◌≡◌, ℕ, replicate, length, take, drop, ◌++◌, arith}
use Rattle.std.proofs.Math.ListN.{length-replicate}
use Rattle.std.proofs.lemmas.List.Edits.{sets-eq, paste_all}
use Rattle.std.proofs.lemmas.List.{append_assoc}
use Rattle.std.proofs.lemmas.Slice.{put_mid-paste}
use Rattle.engine.proofs.moves.blank.Goals as goal

pub returns-in_default : goal.returns-in_default
returns-in_default c =
    let s = c.args.stack.now in
    let at = c.args.at in
    let n = c.args.n in
    let z : List ℕ = replicate n 0 in
    let long : length z ≡ n = length-replicate n 0 in
    put_mid-paste at (at + n - at) s c.fill.new.self z n (search rules) (omega arith) (sym long)
    ∙ paste_all s at z n (sym long)
    ∙ sym (append_assoc (take at s) z (drop (at + n) s))
    ∙ sym (sets-eq z s at (omega (arith, long, c.requires)) ∙ ap (λ (m : ℕ). take at s ++ z ++ drop (at + m) s) long)
