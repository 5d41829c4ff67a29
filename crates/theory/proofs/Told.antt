-- A map that is told by lawful functions is valid.
--     told-local       a map that is told by lawful functions is valid
--     local-laws       the functions of a valid map are lawful
--     remade-told      a map whose darts are remade is told by what they become
use Rattle.std.proofs.Common.{◌≡◌, ℕ, suc, ◌+◌, ◌<◌, ◌≤◌, List, length, get_or, ℤ, sym, refl, ap, ◌∙◌, subst, arith}
use Rattle.paper.specs.Map.{Owned, Dart, Map, spans_of, owned_of, no_dart, count, link, place, owned}
use Rattle.paper.specs.Span.{ordered, row_fits}
use Rattle.paper.specs.Edit.{remade}
use Rattle.theory.specs.Local.{Local}
use Rattle.theory.specs.Told.{Told, Laws}
use Rattle.theory.proofs.Below.{list_length, list_at}
use Rattle.theory.proofs.Valid.{pair_of, commute}

module _ {M : Map} {m n : ℕ} {α : ℕ → ℕ → ℕ} {p : ℕ → List ℤ} {r : ℕ → List Owned} (X : Told M m n α p r) (W : Laws m n α p r) where
  pub told-local : Local M
  told-local = record {
    axes = λ d h. X.axes d (dn d h) ∙ ap suc (sym X.dims);
    coordinates = λ d h. ap length (X.places d (dn d h)) ∙ W.coordinates d (dn d h) ∙ sym X.dims;
    within = λ i d h l. subst (λ (k : ℕ). k < count M) (sym (at i d h l)) (nd (α i d) (W.within i d (dn d h) (im i l)));
    undo = λ i d h l. ap (link M i) (at i d h l) ∙ at i (α i d) (in-α i d h l) l ∙ W.undo i d (dn d h) (im i l);
    pair = λ i j d h f l. twice i j d h f l;
    places =
        λ j d h o l. ap (place M) (at j d h l) ∙ X.places (α j d) (W.within j d (dn d h) (im j l)) ∙ W.places j d (dn d h) o (im j l) ∙ sym (X.places d (dn d h));
    rows =
        λ j d h l. ap (owned M) (at j d h (omega arith)) ∙ X.rows (α j d) (W.within j d (dn d h) (im j (omega arith)))
        ∙ W.rows j d (dn d h) (subst (λ (k : ℕ). j < k) X.dims l)
        ∙ sym (X.rows d (dn d h));
    short = λ d h. ap (λ r. row_fits (spans_of r)) (X.rows d (dn d h)) ∙ W.short d (dn d h);
    order = λ d h. ap (λ r. ordered (spans_of r)) (X.rows d (dn d h)) ∙ W.order d (dn d h);
  }
    where
      dn : (d : ℕ) → d < count M → d < n
      dn d h = subst (λ (k : ℕ). d < k) X.darts h

      nd : (d : ℕ) → d < n → d < count M
      nd d h = subst (λ (k : ℕ). d < k) (sym X.darts) h

      im : (i : ℕ) → i ≤ M.dim → i ≤ m
      im i l = subst (λ (k : ℕ). i ≤ k) X.dims l

      at : (i d : ℕ) → d < count M → i ≤ M.dim → link M i d ≡ α i d
      at i d h l = X.links i d (dn d h) (im i l)

      in-α : (i d : ℕ) → d < count M → i ≤ M.dim → α i d < count M
      in-α i d h l = nd (α i d) (W.within i d (dn d h) (im i l))

      twice : (i j d : ℕ) → d < count M → i + 2 ≤ j → j ≤ M.dim → link M i (link M j (link M i (link M j d))) ≡ d
      twice i j d h f l =
          let li : i ≤ M.dim = omega arith in
          let a : α j d < count M = in-α j d h l in
          let b : α i (α j d) < count M = in-α i (α j d) a li in
          let c : α j (α i (α j d)) < count M = in-α j (α i (α j d)) b l in
          let e : α i d < n = W.within i d (dn d h) (im i li) in
          ap (λ (x : ℕ). link M i (link M j (link M i x))) (at j d h l)
          ∙ ap (λ (x : ℕ). link M i (link M j x)) (at i (α j d) a li)
          ∙ ap (link M i) (at j (α i (α j d)) b l)
          ∙ at i (α j (α i (α j d))) c li
          ∙ pair_of α i j d (ap (α i) (W.undo j (α i d) e (im j l)) ∙ W.undo i d (dn d h) (im i li)) (W.far i j d (dn d h) f (im j l))

pub local-laws : (M : Map) → Local M → Laws M.dim (count M) (link M) (place M) (owned M)
local-laws M L = record {
  coordinates = L.coordinates;
  within = L.within;
  undo = L.undo;
  far = commute M L;
  places = L.places;
  rows = L.rows;
  short = L.short;
  order = L.order;
}

pub remade-told : (M : Map) (f : ℕ → Dart) → ((d : ℕ) → d < count M → length (f d).links ≡ suc M.dim)
    → Told (remade M f) M.dim (count M) (λ i d. get_or (f d).links i 0) (λ d. (f d).place) (λ d. owned_of (f d))
unfolding remade
remade-told M f h = record {
  dims = refl;
  darts = list_length (count M) f;
  axes = λ d l. ap (λ x. length x.links) (list_at (count M) f no_dart d l) ∙ h d l;
  links = λ i d l g. ap (λ x. get_or x.links i 0) (list_at (count M) f no_dart d l);
  places = λ d l. ap (λ x. x.place) (list_at (count M) f no_dart d l);
  rows = λ d l. ap owned_of (list_at (count M) f no_dart d l);
}
