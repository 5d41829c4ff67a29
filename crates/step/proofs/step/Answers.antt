use Rattle.std.proofs.Common.{◌≡◌, ℕ, ◌<◌, ◌≤◌, sym, refl, ◌∙◌, subst, arith, w32, to_z, of_z, rules}
use Rattle.paper.specs.Width.{dim_limit}
use Rattle.paper.specs.Refusal.{answer_of}
use Rattle.paper.specs.Step.{effect}
use Rattle.paper.specs.declared.Command.TheVariants as command
use Rattle.edit.proofs.Emptied.{new-asks}
use Rattle.edit.proofs.Grown.{dart-asks}
use Rattle.edit.proofs.Freed.{unsew-asks}
use Rattle.edit.proofs.Placed.{place-asks}
use Rattle.respan.proofs.Cell.{respan-asks}
use Rattle.respan.proofs.Edited.{span_none}
use Rattle.sew.proofs.Command.{sew-asks}
use Rattle.sides.proofs.Adopted.{adopt-asks}
use Rattle.sides.proofs.Raised.{lift-asks}
use Rattle.step.proofs.Taken.{count-asks, looked, edited-both, raised_both, one_more}
use Rattle.step.proofs.step.Goals as goal

pub new-answer-requires : goal.new-answer-requires
new-answer-requires c = let S = c.requires.stands in new-asks S.plan

pub dart-requires : goal.dart-requires
dart-requires c =
    let a = c.args in
    let S = c.requires.stands in
    let d = dart-asks S.plan in
    record { n_le_dart_limit = d.0; link_width_in_bounds = λ h. d.1 (subst (λ (k : ℕ). a.sizes.n < k) (sym S.room_is) h) }

pub overflow_add-n : goal.overflow_add-n
overflow_add-n c = let S = c.requires.stands in let d = (dart-asks S.plan).0 in record { fits = omega arith }

pub sew-requires : goal.sew-requires
sew-requires c = let S = c.requires.stands in sew-asks S.plan

pub unsew-requires : goal.unsew-requires
unsew-requires c = let S = c.requires.stands in unsew-asks S.plan

pub place-requires : goal.place-requires
place-requires c = let S = c.requires.stands in
    let r = place-asks S.plan in
    record { ready = r.0; place_width_in_bounds = r.1 }

pub span-requires : goal.span-requires
span-requires c = let S = c.requires.stands in
    let r = respan-asks S.plan in
    record { ready = r.0; rows = r.1 }

pub span-requires-in-SpanOf : goal.span-requires-in-SpanOf
span-requires-in-SpanOf c = let S = c.requires.stands in
    let r = respan-asks S.plan in
    record { ready = r.0; rows = r.1 }

pub clear-requires : goal.clear-requires
clear-requires c = let S = c.requires.stands in
    let r = respan-asks S.plan in
    record { ready = r.0; rows = r.1 }

pub lift-answer-requires : goal.lift-answer-requires
lift-answer-requires c = let S = c.requires.stands in lift-asks S.plan S.lifted S.lroom_is

pub relifted-requires : goal.relifted-requires
relifted-requires c = let S = c.requires.stands in subst (λ (k : ℕ). k ≤ dim_limit) S.plan.held.map.dims S.plan.good.plan_dim

pub adopt-answer-requires : goal.adopt-answer-requires
adopt-answer-requires c = let S = c.requires.stands in adopt-asks S.plan S.lifted S.room_is

pub count-requires : goal.count-requires
count-requires c = let S = c.requires.stands in count-asks S.plan S.lifted

pub returns-in-New : goal.returns-in-New
returns-in-New c = λ R s S. edited-both S c.in-New.is refl tt c.replanned.ensures (c.new-answer.ensures R s _ S.plan)

pub returns-in-Dart : goal.returns-in-Dart
returns-in-Dart c =
    let l = c.dart in
    let z = c.args.sizes in
    λ R s S. edited-both S c.in-Dart.is refl tt (c.replanned-in-Dart.ensures ∙ one_more (answer_of l.result) z) (l.ensures R s _ _ _ S.plan S.room_is)

pub returns-in-Sew : goal.returns-in-Sew
returns-in-Sew c = λ R s S. edited-both S c.in-Sew.is refl tt c.kept.ensures (c.sew.ensures R s S.plan)

pub returns-in-Unsew : goal.returns-in-Unsew
returns-in-Unsew c = λ R s S. edited-both S c.in-Unsew.is refl tt c.kept-in-Unsew.ensures (c.unsew.ensures R s _ _ S.plan)

pub returns-in-Place : goal.returns-in-Place
returns-in-Place c =
    let g = c.in-Place in
    let k : to_z w32 (of_z w32 g.coordinate) ≡ g.coordinate = search rules in
    λ R s S. edited-both S (g.is ∙ (λ i. command.Place g.dart g.axis (sym k i))) refl tt c.kept-in-Place.ensures (c.place.ensures R s _ S.plan)

pub returns-in-Span : goal.returns-in-Span
returns-in-Span c =
    let g = c.in-Span in
    let k : to_z w32 (of_z w32 g.lo) ≡ g.lo = search rules in
    let h : to_z w32 (of_z w32 g.hi) ≡ g.hi = search rules in
    λ R s S. edited-both S (g.is ∙ (λ i. command.Span g.dart (sym k i) (sym h i))) refl tt c.kept-in-Span.ensures (span_none (c.span.ensures R s _ S.plan))

pub returns-in-SpanOf : goal.returns-in-SpanOf
returns-in-SpanOf c =
    let g = c.in-SpanOf in
    let k : to_z w32 (of_z w32 g.lo) ≡ g.lo = search rules in
    let h : to_z w32 (of_z w32 g.hi) ≡ g.hi = search rules in
    λ R s S. edited-both S (g.is ∙ (λ i. command.SpanOf g.dart (sym k i) (sym h i) g.object)) refl (omega arith) c.kept-in-SpanOf.ensures (c.span-in-SpanOf.ensures R s _ S.plan)

pub returns-in-Clear : goal.returns-in-Clear
returns-in-Clear c = λ R s S. edited-both S c.in-Clear.is refl tt c.kept-in-Clear.ensures (c.clear.ensures R s _ S.plan)

pub returns-in-Lift : goal.returns-in-Lift
returns-in-Lift c = λ R s S. raised_both S c.in-Lift.is c.relifted.ensures (c.lift-answer.ensures R s _ S.plan S.lifted S.lroom_is)

pub returns-in-Adopt : goal.returns-in-Adopt
returns-in-Adopt c = λ R s S. edited-both S c.in-Adopt.is refl tt c.replanned-in-Adopt.ensures (c.adopt-answer.ensures R s _ _ _ _ S.plan S.lifted S.room_is)

pub returns-in-Count : goal.returns-in-Count
unfolding effect
returns-in-Count c = λ R s S. looked S c.in-Count.is refl c.kept-in-Count.ensures (c.count.ensures R s _ _ _ _ S.plan S.lifted)

pub returns-in-Unreadable : goal.returns-in-Unreadable
unfolding effect
returns-in-Unreadable c = λ R s S. looked S c.in-Unreadable.is refl c.kept-in-Unreadable.ensures (c.reply_unreadable.ensures R s)
