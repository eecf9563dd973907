-- A line that is written from its end: one byte more in front, the digits of a number, a text, the figures.
use mathlib.Core.Path.{◌≡◌, refl, sym, ap, ◌∙◌}
use mathlib.Core.List.{List, [], ◌∷◌, ◌++◌, reverse}
use Prim.Native.Nat.{ℕ, zero, suc, ◌+◌, ◌-◌, ◌/◌, ◌%◌, ◌≤◌, ◌<◌}
use native.Mathlib.Nat.{mod-eq_of_lt}
use native.Mathlib.Numerals.{add-one}
use native.Mathlib.Omega.{arith}
use borrow.Author.Tests.{lt-ltb, le-ltb}
use lib.ListN.{length, get_or, set, take, drop, length-set, length-drop, take-append-drop, drop_of_length-le}
use lib.Seq.{length-take-le, set_split, drop_at, take-set-le, take-take}
use Rattle.hume.specs.Tests.{pick}
use Rattle.hume.specs.Sheet.{digits, decimal, figures_line, refused_line, space, newline}
use Rattle.hume.specs.Call.{Figures}
use Rattle.engine.specs.Reports.{eight}
use Rattle.sheet.specs.Lines.{Kept, Text}

-- a byte in front of what stands at k
pub put_front : (l : List ℕ) (k x : ℕ) → 1 ≤ k → k ≤ length l → drop (k - 1) (set l (k - 1) x) ≡ x ∷ drop k l
put_front l k x low high =
    let h : k - 1 < length l = omega arith in
    let e : suc (k - 1) ≡ k = omega arith in
    ap (λ (t : List ℕ). drop (k - 1) t) (set_split l (k - 1) x h)
    ∙ drop_at (take (k - 1) l) (x ∷ drop (suc (k - 1)) l) (k - 1) (length-take-le (k - 1) l (omega arith))
    ∙ ap (λ (n : ℕ). x ∷ drop n l) e

-- ---- digits

pub digits_more : (f n : ℕ) (t : List ℕ) → 0 < f → 10 ≤ n → digits f n t ≡ digits (f - 1) (n / 10) ((48 + n % 10) ∷ t)
unfolding digits pick
digits_more zero n t low h = absurd (omega arith)
digits_more (suc f) n t low h =
    let e : suc f - 1 ≡ f = omega arith in
    rw (le-ltb n 10 h, e)

pub digits_last : (f n : ℕ) (t : List ℕ) → 0 < f → n < 10 → digits f n t ≡ (48 + n % 10) ∷ t
unfolding digits pick
digits_last zero n t low h = absurd (omega arith)
digits_last (suc f) n t low h = rw (lt-ltb n 10 h, mod-eq_of_lt h)

pub digits_none : (f n : ℕ) (t : List ℕ) → f ≤ 0 → digits f n t ≡ t
unfolding digits
digits_none zero n t h = refl
digits_none (suc f) n t h = absurd (omega arith)

-- ---- a line

-- two lines that have the same text, where the same was before, are the same line, and the text begins at one place
pub record Same (l m : List ℕ) (r s : ℕ) : Type 0 where
  pub place : r ≡ s
  pub line : l ≡ m

pub one_line : (size : ℕ) (before l m text : List ℕ) (r s : ℕ) → Text size before l r text 0 size
    → Text size before m s text 0 size → Same l m r s
one_line size before l m text r s x y =
    let a : length l - r ≡ length text = sym (length-drop r l) ∙ ap length x.is in
    let b : length m - s ≡ length text = sym (length-drop s m) ∙ ap length y.is in
    let e : r ≡ s = omega (arith, a, b, x.high, y.high, x.sized, y.sized) in
    let whole : (k : List ℕ) (i : ℕ) → Text size before k i text 0 size → k ≡ take i before ++ text =
    λ k i z. sym (take-append-drop i k) ∙ (λ j. z.kept.front j ++ z.is j) in
    record { place = e; line = whole l r x ∙ ap (λ (i : ℕ). take i before ++ text) e ∙ sym (whole m s y) }

-- ---- what stands in front is kept

pub kept_all : (l : List ℕ) (r : ℕ) → Kept l l r
kept_all l r = record { front = refl }

pub kept_both : {a b c : List ℕ} {r s : ℕ} → Kept a b r → Kept b c s → s ≤ r → Kept a c s
kept_both {a} {b} {r} {s} p q h =
    record {
      front =
          q.front
          ∙ sym (take-take s r b h)
          ∙ ap (λ (t : List ℕ). take s t) p.front
          ∙ take-take s r a h;
    }

-- by a byte at the place before k, and further up
pub kept_set : (l : List ℕ) (k x r : ℕ) → r ≤ k → Kept l (set l k x) r
kept_set l k x r h = record { front = take-set-le r l k x h }

pub kept_front : (l before : List ℕ) (k x : ℕ) → Kept before l k → Kept before (set l (k - 1) x) (k - 1)
kept_front l before k x e = kept_both e (kept_set l (k - 1) x (k - 1) (omega arith)) (omega arith)

-- the last digit of a number is put in front of the others
pub last_digit : (line : List ℕ) (at left rest : ℕ) → 1 ≤ at → at ≤ length line → 0 < left → rest < 10
    → drop (at - 1) (set line (at - 1) (48 + rest % 10)) ≡ digits left rest (drop at line)
last_digit line at left rest low high more small =
    put_front line at _ low high ∙ sym (digits_last left rest (drop at line) more small)

-- and each digit before it in front of those
pub more_digits : (line : List ℕ) (at left rest : ℕ) → 1 ≤ at → at ≤ length line → 0 < left → 10 ≤ rest
    → digits (left - 1) (rest / 10) (drop (at - 1) (set line (at - 1) (48 + rest % 10))) ≡ digits left rest (drop at line)
more_digits line at left rest low high more large =
    ap (λ (t : List ℕ). digits (left - 1) (rest / 10) t) (put_front line at _ low high)
    ∙ sym (digits_more left rest (drop at line) more large)

-- what is said of a number whose last digit is put
pub ruleset number_done = (last_digit, kept_front, length-set)

-- a line ends where the buffer does
pub line_end : (l : List ℕ) (n : ℕ) → length l ≡ n → drop n l ≡ []
line_end l n e =
    let h : length l ≤ n = omega (arith, e) in
    drop_of_length-le l h

-- the byte after the last figure but k
abbrev pub after_last : ℕ → ℕ
after_last zero = newline
after_last (suc k) = space

-- the last k figures, which are given from the last on
abbrev pub last_figures : List ℕ → ℕ → List ℕ
last_figures back zero = []
last_figures back (suc k) = decimal (get_or back k 0) (after_last k ∷ last_figures back k)

-- one figure more
pub one_figure : (back : List ℕ) (k n x after : ℕ) {t u : List ℕ} → n ≡ k + 1 → x ≡ get_or back k 0 → after ≡ after_last k
    → t ≡ last_figures back k → u ≡ decimal x (after ∷ t) → u ≡ last_figures back n
one_figure back k n x after e ex ea et eu =
    eu ∙ (λ j. decimal (ex j) (ea j ∷ et j)) ∙ ap (λ (m : ℕ). last_figures back m) (sym (e ∙ add-one k))

-- "the eight figures in that order on one line"
pub all_figures : (f : Figures) → last_figures (reverse (eight f)) 8 ≡ figures_line f
unfolding figures_line
all_figures f = refl

pub refused_text : (n : ℕ) {t0 t1 t2 : List ℕ} → t0 ≡ [] → t1 ≡ decimal n (newline ∷ t0)
    → t2 ≡ (114 ∷ 101 ∷ 102 ∷ 117 ∷ 115 ∷ 101 ∷ 100 ∷ 32 ∷ []) ++ t1 → t2 ≡ refused_line n
unfolding refused_line
refused_text n e0 e1 e2 = rw (e2, e1, e0)
