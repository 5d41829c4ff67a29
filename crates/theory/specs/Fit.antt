-- Objects fit their 16 bits: what the tables of plan and lifted side need, and what holds wherever commands bring no larger ones.
--     ObjectsFit       every object of a map's rows is one from 0 to 65535
--     Fitting          so is the object that a command brings, if it brings one
--     Fit              all objects of plan and lifted side are
use Rattle.std.specs.Prelude.{◌≡◌, ℕ, ◌<◌, true, length, slice_index}
use Rattle.paper.specs.Width.{object_limit}
use Rattle.paper.specs.Map.{Owned, Map, count, owned}
use Rattle.paper.specs.Table.{object_fits}
use Rattle.paper.specs.Step.{Maps}
use Rattle.paper.specs.declared.Command.{Command}
use Rattle.paper.specs.declared.Command.TheVariants as command
use Rattle.theory.specs.Member.{◌∈◌}

abbrev pub ObjectsFit : Map → Type 0
ObjectsFit M = (d : ℕ) → d < count M → (x : Owned) → x ∈ owned M d → object_fits x.object ≡ true

abbrev pub Fitting : Command → Type 0
Fitting (command.New m) = Unit {0}
Fitting command.Dart = Unit {0}
Fitting (command.Sew i a b) = Unit {0}
Fitting (command.Unsew i a) = Unit {0}
Fitting (command.Place d x z) = Unit {0}
Fitting (command.Span d lo hi) = Unit {0}
Fitting (command.SpanOf d lo hi object) = object < object_limit
Fitting (command.Clear d) = Unit {0}
Fitting command.Lift = Unit {0}
Fitting command.Adopt = Unit {0}
Fitting (command.Count x i) = Unit {0}
Fitting (command.Unreadable n) = Unit {0}

pub record Fit (s : Maps) : Type 0 where
  pub plan : ObjectsFit s.plan
  pub lifted : (q : ℕ) → q < length s.objects → slice_index s.objects q < object_limit
