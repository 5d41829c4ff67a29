-- One command on the two maps: its refusals in their order, its effect and its value, apart from each other.
--     Maps             the plan, the lifted map, and the objects that the lifted darts carry
--     Room             the two capacities and the length of the reply memory
--     span_refusals, span_edit, span_value       a span with its object into the rows of a top cell: command 1A, and SPAN by object 0
--     refusals         what each command is refused by, in the order in which it is tried
--     Kind, kind_of     what a command is there for: the one classification of commands
--     is_plan_write, is_lifted_write, stops_run   tests of a kind
--     is_edit, is_lift, is_run_end    it writes the plan; the lifted map; it is unreadable, and ends the run by its number
--     edited           the plan that an edit makes
--     effect_of, effect the two maps, and the objects, after a command that is accepted, by its kind
--     value            the value of a command that is accepted
--     reply            the reply to a command: its number and value
--     after            the maps after it: a refusal leaves both
use Rattle.std.specs.Prelude.{ℕ, Bool, true, false, cond, not, ◌&&◌, ◌||◌, List, [], ◌∷◌, length, ℤ, pos, ◌==◌, int_le, nat_le, nat_lt}
use Rattle.paper.specs.Width.{dim_limit, new_limit}
use Rattle.paper.specs.Below.{count_below, any_of}
use Rattle.paper.specs.Map.{Owned, Map, spans_of, count, owned, free}
use Rattle.paper.specs.Orbit.{marked, size}
use Rattle.paper.specs.Cell.{corner, top, cells}
use Rattle.paper.specs.Span.{row_fits}
use Rattle.paper.specs.Lift.{lifted_darts, lift, carried_objects}
use Rattle.paper.specs.Sew.{wing, sewable, agreeing}
use Rattle.paper.specs.Edit.{empty, grown, sewn, freed, unsewn, placed, respanned, adopted}
use Rattle.paper.specs.Join.{clashes, with_span}
use Rattle.paper.specs.Refusal.{number, Test, ◌if◌, judge, accepted, accept}
use Rattle.paper.specs.declared.refusal.Refusal.TheVariants.{UnknownCommand, CutShort, OutOfRange, NoSuchDart, EmptySpan, NoPlan, PlanFull, AlreadyLinked, NoPairing, PairDisagrees, AlreadyFree, SpanOverlaps, RowFull, TooLarge, NothingLifted, TopDimension}
use Rattle.paper.specs.declared.Command.{Command}
use Rattle.paper.specs.declared.Command.TheVariants as command
use Rattle.paper.specs.declared.Answer.{Answer}

pub record Maps : Type 0 where
  pub plan : Map
  pub lifted : Map
  pub objects : List ℕ

pub record Room : Type 0 where
  pub plan : ℕ
  pub lifted : ℕ
  pub reply : ℕ

abbrev pub outside : ℕ → ℕ → ℕ → Bool
outside lo hi x = nat_lt x lo || nat_lt hi x

-- the side that COUNT names: 0 plan, 1 lifted
abbrev pub side_of : Maps → ℕ → Map
side_of s x = cond (x == 0) s.plan s.lifted

abbrev pub without_plan : Maps → Test
without_plan s = NoPlan if (s.plan.dim == 0)

-- a span from lo up to hi, of an object
abbrev pub owned_span : ℤ → ℤ → ℕ → Owned
owned_span lo hi object = record { span = record { lo = lo; hi = hi }; object = pos object }

-- SPAN of an object: the refusals in their order. Both of the row are by the row before: 18 where the span overlaps one of another object, 19 where the row with it would be too long.
abbrev pub span_refusals : Maps → ℕ → Owned → List Test
span_refusals s d x =
    let P = s.plan in
    without_plan s
    ∷ NoSuchDart if nat_le (count P) d
    ∷ EmptySpan if int_le x.span.hi x.span.lo
    ∷ SpanOverlaps if any_of (clashes x) (owned P d)
    ∷ RowFull if not (row_fits (spans_of (with_span x (owned P d))))
    ∷ []

-- what it makes of a plan, and its value
abbrev pub span_edit : Map → ℕ → Owned → Map
span_edit P d x = respanned P d (with_span x)

abbrev pub span_value : Maps → ℕ → ℕ
span_value s d = size (count s.plan) (top s.plan d)

-- After 23, each command's refusals in their order.
unfoldable pub refusals : Room → Maps → Command → List Test
refusals R s (command.New m) = OutOfRange if outside 1 new_limit m ∷ []
refusals R s command.Dart = without_plan s ∷ PlanFull if nat_le R.plan (count s.plan) ∷ []
refusals R s (command.Sew i a b) =
    let P = s.plan in
    without_plan s
    ∷ OutOfRange if nat_lt P.dim i
    ∷ NoSuchDart if (nat_le (count P) a || nat_le (count P) b)
    ∷ AlreadyLinked if not (free P i a && free P i b)
    ∷ NoPairing if not (sewable P i a b)
    ∷ PairDisagrees if not (agreeing P i a b)
    ∷ []
refusals R s (command.Unsew i a) =
    let P = s.plan in
    without_plan s ∷ OutOfRange if nat_lt P.dim i ∷ NoSuchDart if nat_le (count P) a ∷ AlreadyFree if free P i a ∷ []
refusals R s (command.Place d x z) = let P = s.plan in without_plan s ∷ OutOfRange if nat_le P.dim x ∷ NoSuchDart if nat_le (count P) d ∷ []
refusals R s (command.Span d lo hi) = span_refusals s d (owned_span lo hi 0)
refusals R s (command.SpanOf d lo hi object) = span_refusals s d (owned_span lo hi object)
refusals R s (command.Clear d) = without_plan s ∷ NoSuchDart if nat_le (count s.plan) d ∷ []
refusals R s command.Lift =
    let P = s.plan in
    without_plan s ∷ TopDimension if nat_le dim_limit P.dim ∷ TooLarge if nat_lt R.lifted (length (lifted_darts P)) ∷ []
refusals R s command.Adopt = NothingLifted if (s.lifted.dim == 0) ∷ PlanFull if nat_lt R.plan (count s.lifted) ∷ []
refusals R s (command.Count x i) =
    let M = side_of s x in
    OutOfRange if nat_lt 1 x
    ∷ NoPlan if (x == 0 && M.dim == 0)
    ∷ NothingLifted if (x == 1 && M.dim == 0)
    ∷ OutOfRange if nat_lt M.dim i
    ∷ []
refusals R s (command.Unreadable n) = UnknownCommand if (n == number UnknownCommand) ∷ CutShort if true ∷ []

-- What a command is there for: an accepted edit writes the plan, LIFT writes the lifted side, COUNT only looks, an unreadable command ends the run.
pub data Kind : Type 0 where
  writes_plan writes_lifted looks ends_run : Kind

abbrev pub kind_of : Command → Kind
kind_of (command.New m) = writes_plan
kind_of command.Dart = writes_plan
kind_of (command.Sew i a b) = writes_plan
kind_of (command.Unsew i a) = writes_plan
kind_of (command.Place d x z) = writes_plan
kind_of (command.Span d lo hi) = writes_plan
kind_of (command.SpanOf d lo hi object) = writes_plan
kind_of (command.Clear d) = writes_plan
kind_of command.Lift = writes_lifted
kind_of command.Adopt = writes_plan
kind_of (command.Count x i) = looks
kind_of (command.Unreadable n) = ends_run

abbrev pub is_plan_write : Kind → Bool
is_plan_write writes_plan = true
is_plan_write writes_lifted = false
is_plan_write looks = false
is_plan_write ends_run = false

abbrev pub is_lifted_write : Kind → Bool
is_lifted_write writes_plan = false
is_lifted_write writes_lifted = true
is_lifted_write looks = false
is_lifted_write ends_run = false

abbrev pub stops_run : Kind → Bool
stops_run writes_plan = false
stops_run writes_lifted = false
stops_run looks = false
stops_run ends_run = true

abbrev pub is_edit : Command → Bool
is_edit c = is_plan_write (kind_of c)

abbrev pub is_lift : Command → Bool
is_lift c = is_lifted_write (kind_of c)

abbrev pub is_run_end : Command → Bool
is_run_end c = stops_run (kind_of c)

-- What an accepted edit makes of a plan P, beside a lifted map L; other commands leave it. Objects that lifted darts carry have no part in it.
unfoldable pub edited : Map → Map → Command → Map
edited P L (command.New m) = empty m
edited P L command.Dart = grown P
edited P L (command.Sew i a b) = sewn P i a b
edited P L (command.Unsew i a) = unsewn P i a
edited P L (command.Place d x z) = placed P d x z
edited P L (command.Span d lo hi) = span_edit P d (owned_span lo hi 0)
edited P L (command.SpanOf d lo hi object) = span_edit P d (owned_span lo hi object)
edited P L (command.Clear d) = respanned P d (λ r. [])
edited P L command.Lift = P
edited P L command.Adopt = adopted L
edited P L (command.Count x i) = P
edited P L (command.Unreadable n) = P

-- An edit, which makes the plan P, leaves the lifted map and what its darts carry; LIFT leaves the plan, and the others leave both.
abbrev pub effect_of : Kind → Map → Maps → Maps
effect_of writes_plan P s = record { plan = P; lifted = s.lifted; objects = s.objects }
effect_of writes_lifted P s = record { plan = s.plan; lifted = lift s.plan; objects = carried_objects s.plan }
effect_of looks P s = s
effect_of ends_run P s = s

unfoldable pub effect : Maps → Command → Maps
unfolding edited
effect s c = effect_of (kind_of c) (edited s.plan s.lifted c) s

unfoldable pub value : Maps → Command → ℕ
value s (command.New m) = 0
value s command.Dart = count s.plan
value s (command.Sew i a b) =
    let P = s.plan in
    let A = wing P i a in
    let B = wing P i b in
    count_below (count P) (λ d. marked A d || marked B d)
value s (command.Unsew i a) = size (count s.plan) (freed s.plan i a)
value s (command.Place d x z) = size (count s.plan) (corner s.plan d)
value s (command.Span d lo hi) = span_value s d
value s (command.SpanOf d lo hi object) = span_value s d
value s (command.Clear d) = size (count s.plan) (top s.plan d)
value s command.Lift = length (lifted_darts s.plan)
value s command.Adopt = count s.lifted
value s (command.Count x i) = cells (side_of s x) i
value s (command.Unreadable n) = 0

unfoldable pub reply : Room → Maps → Command → Answer
reply R s c = accept (judge 0 (refusals R s c)) (value s c)

-- A refusal leaves both maps as they were, and what the lifted darts carry.
unfoldable pub after : Room → Maps → Command → Maps
after R s c = let s' = effect s c in cond (accepted (reply R s c)) s' s
