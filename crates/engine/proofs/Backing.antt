-- The frames of a state that is reached are as a Return needs them.
use mathlib.Core.Path.{◌≡◌, sym, ap, ◌∙◌, subst}
use mathlib.Core.List.{List}
use Prim.Native.Nat.{ℕ, ◌+◌, ◌*◌, ◌-◌, ◌/◌, ◌≤◌, ◌<◌}
use native.Mathlib.Omega.{arith}
use lib.ListN.{get_or}
use lib.Seq.{get_or_at}
use Rattle.hume.specs.Words.{Word, null, link}
use Rattle.hume.specs.Image.{Program}
use Rattle.reach.specs.Sound.{Frames, bottom, frame}
use Rattle.engine.specs.Fits.{Fit}
use Rattle.engine.specs.Frames.{Framed}
use Rattle.engine.specs.Turns.{Smalls, Holds}
use Rattle.engine.specs.declared.regs.Regs.{Regs}
use Rattle.engine.proofs.WordKinds.{payload_is}

-- the link's fp is under the four saved words
link_back : {P : Program} {hs ws : List Word} {fp : ℕ} → Frames P hs ws fp → 0 < fp
    → (get_or ws (fp - 1) null).payload / 256 + 4 ≤ fp
link_back (bottom ws fp e p) k = absurd (omega (arith, e, k))
link_back (frame ws fp lower upper prev n e q i j p d g) k =
    let w : get_or ws (fp - 1) null ≡ link prev n =
    ap (λ (x : List Word). get_or x (fp - 1) null) e ∙ get_or_at lower (link prev n) upper null (fp - 1) (omega (arith, q)) in
    let z : (prev * 256 + n) / 256 ≡ prev = omega arith in
    let u : (get_or ws (fp - 1) null).payload / 256 ≡ prev = ap (λ (x : Word). x.payload / 256) w ∙ z in
    omega (arith, u, q, d)

pub frames_framed : {P : Program} {r : Regs} {st he : List ℕ} {ws hs : List Word} → Fit r
    → Holds r st he ws hs → Smalls ws → Frames P hs ws r.fp → Framed r st
frames_framed {P} {r} {st} {he} {ws} f h m g =
    record {
      back = λ k.
          let e = h.stack.get (r.fp - 1) (omega (arith, k, h.sp, f.fp, f.lp)) in
          subst (λ (x : ℕ). x / 256 + 4 ≤ r.fp) (sym (payload_is e (m.each (r.fp - 1)))) (link_back g k);
    }
