-- A coordinate of a lifted dart's place: that of d below m, t at m, 0 above.
use Rattle.std.proofs.Common.{◌≡◌, ℕ, ◌+◌, ◌*◌, ◌<◌, List, [], ◌∷◌, ◌++◌, length, get_or, ℤ, pos, sym, ◌∙◌, arith, length-append}
use lib.ListN.{get_or-append, get_or-eq_default}
use lib.Seq.{get_or_at}
use Rattle.paper.specs.Width.{place_width}
use Rattle.theory.proofs.Below.{list_length, list_at}
use Rattle.places.specs.Write.{place_of, coord_of}

module _ (places : List ℤ) (d m : ℕ) (t : ℤ) (a : ℕ) where
  long : length (place_of places d m) ≡ m
  long = list_length m (λ q. get_or places (d * place_width + q) (pos 0))

  pub coord-low : a < m → get_or places (d * place_width + a) (pos 0) ≡ coord_of places d m t a
  unfolding coord_of
  coord-low h =
      sym (get_or-append (place_of places d m) (t ∷ []) (pos 0) a (rw long h) ∙ list_at m (λ q. get_or places (d * place_width + q) (pos 0)) (pos 0) a h)

  pub coord-top : a ≡ m → t ≡ coord_of places d m t a
  unfolding coord_of
  coord-top e = sym (get_or_at (place_of places d m) t [] (pos 0) a (long ∙ sym e))

  pub coord-past : m < a → pos 0 ≡ coord_of places d m t a
  unfolding coord_of
  coord-past h =
      let l = long in
      let e = length-append (place_of places d m) (t ∷ []) in
      sym (get_or-eq_default (place_of places d m ++ (t ∷ [])) (pos 0) (omega arith))
