-- Rows in place of the first ones of a table, past which it stays.
--     table-put        a list that has a table's rows and no more, in front of what stands past them in another
--     front-places, front-links      the first rows of the tables, as many as the lift has
--     known-front      the write of a lift asks for no more than these
--     rows-put         and with every row of the lift in them, the tables are those with its rows put
use Rattle.std.proofs.Common.{◌≡◌, ℕ, ◌+◌, ◌*◌, ◌<◌, ◌≤◌, List, ◌++◌, length, get_or, take, drop, ℤ, pos, sym, ap, ◌∙◌, subst, arith, lit<, length-take-le, take_all}
use lib.ListN.{get_or-eq_default}
use Rattle.kernel.specs.Copy.{copied}
use Rattle.paper.specs.Width.{link_width, place_width}
use Rattle.paper.specs.Map.{Map, count}
use Rattle.paper.specs.Lift.{lifted_darts, lift}
use Rattle.paper.specs.Table.{link_at, place_at, table_of, map_of}
use Rattle.theory.proofs.LiftValid.{lift-count}
use Rattle.hold.proofs.Rows.{table-length, table-whole}
use Rattle.visit.specs.Stead.{Known}
use Rattle.sweep.specs.Drawn.{Complete}
use Rattle.lift.specs.Lifted.{links_put, places_put}

module _ {A : Type 0} (z : A) (w n : ℕ) (f : ℕ → ℕ → A) (p : 0 < w) where
  abbrev rows : List A
  rows = table_of w n f z (n * w)

  rows-length : length rows ≡ n * w
  rows-length = table-length z w n f (n * w)

  pub table-put : (t l : List A) → length t ≡ n * w → ((d q : ℕ) → d < n → q < w → get_or t (d * w + q) z ≡ f d q)
      → t ++ drop (n * w) l ≡ copied (n * w) (table_of w n f z (n * w)) l
  unfolding copied
  table-put t l e has =
      let a : t ≡ rows = table-whole z w n f t p has (λ i h. get_or-eq_default t z (omega arith)) ∙ ap (table_of w n f z) e in
      let b : length rows ≤ n * w = let c = rows-length in omega arith in
      ap (λ x. x ++ drop (n * w) l) (a ∙ sym (take_all (n * w) rows b))

-- ---- a lift of k darts
module _ {ls : List ℕ} {ps ss : List ℤ} {m n : ℕ} {w : List ℕ} {op : List ℤ} {ol : List ℕ} (K : Known ls ps ss m n w op ol)
    {k : ℕ} (e : k ≡ length (lifted_darts (map_of ls ps ss m n))) where
  abbrev L : Map
  L = lift (map_of ls ps ss m n)

  pub front-places : length (take (k * place_width) op) ≡ k * place_width
  front-places = let a = K.lifted_places in length-take-le (k * place_width) op (omega arith)

  pub front-links : length (take (k * link_width) ol) ≡ k * link_width
  front-links = let a = K.lifted_links in length-take-le (k * link_width) ol (omega arith)

  pub known-front : Known ls ps ss m n w (take (k * place_width) op) (take (k * link_width) ol)
  known-front =
      let a = front-places in
      let b = front-links in
      record {
        plan = K.plan;
        dims = K.dims;
        links_long = K.links_long;
        places_long = K.places_long;
        places_same = K.places_same;
        work = K.work;
        fits = K.fits;
        few = K.few;
        lifted_places = omega arith;
        lifted_links = omega arith;
      }

  many : k ≡ count L
  many = e ∙ sym (lift-count (map_of ls ps ss m n))

  counted : {d : ℕ} → d < count L → d < length (lifted_darts (map_of ls ps ss m n))
  counted {d} h = subst (λ (j : ℕ). d < j) (lift-count (map_of ls ps ss m n)) h

  pub rows-put : {op₁ : List ℤ} {ol₁ : List ℕ} → Complete (map_of ls ps ss m n) op₁ ol₁ → length op₁ ≡ length (take (k * place_width) op) → length ol₁ ≡ length (take (k * link_width) ol)
      → (ol₁ ++ drop (k * link_width) ol ≡ links_put L ol) × (op₁ ++ drop (k * place_width) op ≡ places_put L op)
  rows-put {op₁} {ol₁} C a b = (
    ap (λ (j : ℕ). ol₁ ++ drop (j * link_width) ol) many
        ∙ table-put 0 link_width (count L) (link_at L) (lit< tt) ol₁ ol (b ∙ front-links ∙ ap (λ (j : ℕ). j * link_width) many) (λ d q h g. C.links d q (counted h) g),
    ap (λ (j : ℕ). op₁ ++ drop (j * place_width) op) many
        ∙ table-put (pos 0) place_width (count L) (place_at L) (lit< tt) op₁ op (a ∙ front-places ∙ ap (λ (j : ℕ). j * place_width) many) (λ d q h g. C.places d q (counted h) g),
  )
