-- Pairs of darts, as SEW walks them: in a labelling, a dart's label is its partner. One index serves both darts of a pair.
--     Pairs            the first t pairs: no dart stands in two of them, or twice in one
--     Fresh            neither of two darts stands in a pair yet
--     Clash            two darts can't be a pair beside the first t
--     Judged           what a verdict on two darts says of them
--     Wrong            partners carried from a and b that no pairing has
--     entered          the work list with one more pair
--     Paired           what an accepted walk leaves: the pairs are all that is carried from a and b
use Rattle.std.specs.Prelude.{◌≡◌, ℕ, ◌+◌, ◌<◌, Bool, List, ◌≢◌, slice_set}
use Rattle.theory.specs.Carry.{Carried}
use Rattle.orbit.specs.Sparse.{queue, Sparse, In}
use Rattle.sew.specs.declared.pair.Verdict.{Verdict}
use Rattle.sew.specs.declared.pair.Verdict.TheVariants.{Apart, Known, New}
use Rattle.sew.specs.Label.{Beside, Labelled}

pub record Pairs (n : ℕ) (w : List ℕ) (t : ℕ) : Type 0 where
  pub left : Sparse n n w t
  pub right : Sparse (n + n) n w t
  -- a dart on both sides would have one index, and stand there as its own partner
  pub apart : (q : ℕ) → q < t → queue n w q ≢ queue (n + n) w q

pub record Fresh (n : ℕ) (w : List ℕ) (t g x : ℕ) : Type 0 where
  pub left_g : In n w t g → ⊥
  pub right_g : In (n + n) w t g → ⊥
  pub left_x : In n w t x → ⊥
  pub right_x : In (n + n) w t x → ⊥
  pub other : g ≡ x → ⊥

pub data Clash (n : ℕ) (w : List ℕ) (t g x : ℕ) : Type 0 where
  -- g is a partner, or has another one
  g_right : In (n + n) w t g → Clash n w t g x
  g_other : (q : ℕ) → q < t → queue n w q ≡ g → (queue (n + n) w q ≢ x) → Clash n w t g x
  -- x has a partner, or is another's
  x_left : In n w t x → Clash n w t g x
  x_other : (q : ℕ) → q < t → queue (n + n) w q ≡ x → (queue n w q ≢ g) → Clash n w t g x
  -- they are one dart
  one_dart : g ≡ x → Clash n w t g x

abbrev pub Judged : ℕ → List ℕ → ℕ → ℕ → ℕ → Verdict → Type 0
Judged n w t g x Apart = Clash n w t g x
Judged n w t g x Known = Beside n w t g x
Judged n w t g x New = Fresh n w t g x

pub data Wrong (α : ℕ → ℕ → ℕ) (m : ℕ) (S : ℕ → Bool) (a b : ℕ) : Type 0 where
  -- d has two partners
  two : (d e g : ℕ) → Carried α α m S a b d e → Carried α α m S a b d g → (g ≢ e) → Wrong α m S a b
  -- e is the partner of two darts
  shared : (d e g : ℕ) → Carried α α m S a b d e → Carried α α m S a b g e → (g ≢ d) → Wrong α m S a b
  -- e stands on both sides
  meet : (d e g : ℕ) → Carried α α m S a b d e → Carried α α m S a b e g → Wrong α m S a b

abbrev pub entered : ℕ → List ℕ → ℕ → ℕ → ℕ → List ℕ
entered n w t g x = slice_set (slice_set (slice_set (slice_set w g t) x t) (n + t) g) (n + n + t) x

abbrev pub Paired : (ℕ → ℕ → ℕ) → ℕ → (ℕ → Bool) → ℕ → ℕ → ℕ → List ℕ → ℕ → Type 0
Paired α m S n a b w t = Labelled α α m S (Pairs n) n a b w t
