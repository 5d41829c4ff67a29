-- What is known of tables that the check accepts, and of the lifted side's.
--     liftable         they hold a plan that can be lifted, into as much room as the lifted side has
--     known            and written, where its lift fits
--     counts-sound     its lifted darts can be counted
use Rattle.std.proofs.Common.{◌≡◌, ℕ, ◌<◌, ◌≤◌, List, length, arith}
use Rattle.paper.specs.Width.{dim_limit}
use Rattle.paper.specs.Table.{Tables, LiftedTables, lengths, lifted_lengths, lifted_capacity}
use Rattle.paper.specs.Lift.{lifted_darts}
use Rattle.paper.specs.Call.{held}
use Rattle.theory.specs.Accepted.{Accepted}
use Rattle.theory.proofs.Table.{held_place}
use Rattle.hold.proofs.Room.{lifted-room, plan-room}
use Rattle.hold.proofs.Hold.{accepted-reads}
use Rattle.tally.specs.Level.{Sound}
use Rattle.tally.proofs.Found.{sound}
use Rattle.visit.specs.Stead.{Known}
use Rattle.lift.specs.Lifted.{Liftable}

pub liftable : {T : Tables} {m n : ℕ} {O : LiftedTables} {room : ℕ} → Accepted T m n → room ≡ lifted_capacity (lifted_lengths O) → Liftable T m n O room
liftable {T} {m} {n} {O} {room} A e = record {
  plan = accepted-reads T.links T.places T.spans m n T.work A;
  objects = A.objects;
  own = plan-room (lengths T) n A.fits;
  lifted = lifted-room (lifted_lengths O) room (omega arith);
}

module _ {T : Tables} {m n : ℕ} {O : LiftedTables} {room : ℕ} (X : Liftable T m n O room) (dims : m < dim_limit) where
  pub known : length (lifted_darts (held T m n)) ≤ room → {w : List ℕ} → length w ≡ T.work → Known T.links T.places T.spans m n w O.places O.links
  known h a =
      let P = X.own in
      let L = X.lifted in
      record {
        plan = X.plan;
        dims = dims;
        links_long = P.links;
        places_long = P.places;
        places_same = held_place T.links T.places T.spans m n;
        work = omega arith;
        fits = omega arith;
        few = omega arith;
        lifted_places = omega arith;
        lifted_links = omega arith;
      }

  pub counts-sound : (w v : List ℕ) → length w ≡ T.work → length v ≡ O.work → Sound m n T.links T.spans w v room
  counts-sound w v a b =
      let p = X.own.work in
      let q = X.lifted.work in
      sound X.plan (omega arith) X.own.links (omega arith) X.lifted.few (omega arith)
