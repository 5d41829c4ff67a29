-- What the first pass asks, test by test.
--     agreed-rest      the other dart is the higher one: what is left to ask
--     links-before     a dart that is linked along the axes before j has its links there among the darts
use Rattle.std.proofs.Common.{◌≡◌, ℕ, ◌<◌, true, ◌&&◌, ◌||◌, ltb, List, ℤ, sym, ltb-true}
use borrow.Author.Tests.{lt-leb}
use Rattle.paper.specs.Below.{all_below}
use Rattle.theory.proofs.Bool.{and_both}
use Rattle.theory.proofs.Below.{all-out}
use Rattle.kernel.specs.Link.{alpha}
use Rattle.fault.specs.Fault.{places_agree}
use Rattle.well.specs.Well.{LinksBefore, rows_agree, linked_along, agrees_to}

pub agreed-rest : (ps ss : List ℤ) (m d j e : ℕ) → d < e → (places_agree ps m j d e && rows_agree ss m j d e) ≡ agrees_to ps ss m d j e
agreed-rest ps ss m d j e h = sym (λ i. lt-leb e d h i || (places_agree ps m j d e && rows_agree ss m j d e))

pub links-before : (ls : List ℕ) (n d j : ℕ) → all_below j (linked_along ls n d) ≡ true → LinksBefore ls n d j
links-before ls n d j t i h = ltb-true (alpha ls i d) n (and_both (ltb (alpha ls i d) n) _ (all-out j (linked_along ls n d) t i h)).0
