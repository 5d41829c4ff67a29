-- Blocks of rows: their places, and walks by height.
--     row-outside      a row of one block is outside every other
--     placed_at        what the write of a block's places leaves
--     height-at        the height of a row of a block
--     block_room       a block lies within the room
--     joinable         walks by height that join two blocks may be made
--     joined-read      what they leave, piece by piece
--     alike            two blocks whose pieces are alike are so by height
--     stacked          the pieces of a block stand one above the other
--     crossable, cross-read     the same for a walk from a block to itself
--     same_read        what joining two levels leaves where they have the same pieces
use Rattle.std.proofs.Common.{◌≡◌, ℕ, suc, ◌+◌, ◌*◌, ◌<◌, ◌≤◌, Bool, true, false, cond, not, List, [], ◌∷◌, ◌++◌, length, get_or, ℤ, pos, sym, ap, ◌∙◌, inl, inr, ⊎_elim, arith}
use lib.Seq.{get_or_at}
use lib.Signed.{lt_z, le_z}
use Rattle.paper.specs.Width.{link_width, place_width}
use Rattle.paper.specs.Map.{Map, Span, count, place}
use Rattle.theory.specs.Ascending.{Ascends}
use Rattle.number.specs.Count.{piece_count}
use Rattle.number.specs.First.{pieces_at, no_piece, end_of, first, side, number_of}
use Rattle.number.proofs.First.{side-small, block_within, block_apart, foot-below, foot-rises, head-below}
use Rattle.number.proofs.Level.{ends-once, levels-same}
use Rattle.places.specs.Write.{coord_at, Placed}
use Rattle.over.specs.Over.{height_at, feet_from, Overable}
use Rattle.over.specs.Block.{Crossable, Crossed, Alike, Stacked, Joinable, Joined, Same}
use Rattle.over.proofs.Read.{feet-up}
use Rattle.visit.specs.Block.{Outside, PlacedAt, Cross, Ways}
use Rattle.visit.specs.Stead.{Stead}

pub row-outside : (M : Map) (d l e k : ℕ) → d < count M → e < count M → l ≤ M.dim → k ≤ M.dim → ((d ≡ e) × (l ≡ k) → ⊥)
    → (j : ℕ) (s : Bool) → j < piece_count M d l → Outside M e k (number_of M d l j s)
row-outside M d l e k hd he hl hk o j s hj = go s
  where
    go : (s : Bool) → Outside M e k (number_of M d l j s)
    go true = ⊎_elim (λ a. inl (omega arith)) (λ a. inr (omega arith)) (block_apart M d l e k hd he hl hk o)
    go false = ⊎_elim (λ a. inl (omega arith)) (λ a. inr (omega arith)) (block_apart M d l e k hd he hl hk o)

module _ {M : Map} {m n : ℕ} {links : List ℕ} {places spans : List ℤ} {w : List ℕ} {op₁ : List ℤ} {ol₁ : List ℕ} {room : ℕ}
    (S : Stead M m n links places spans w op₁ ol₁ room) where
  -- ---- places
  pub placed_at : (d k x : ℕ) (P : List Span) {op op' : List ℤ} → d < n → x ≡ first M d k → P ≡ pieces_at M d k → Placed places d m P x op op'
      → PlacedAt M op' d k × ((q a : ℕ) → a < place_width → Outside M d k q → coord_at op' q a ≡ coord_at op q a)
  unfolding end_of piece_count
  placed_at d k x P {op} {op'} h ex eP p =
      let r : Placed places d m (pieces_at M d k) (first M d k) op op' = rw (ex, eP) at p in
      (λ j s a g l. at r j a g l s, λ q a l o. r.other q a l o)
    where
      at : Placed places d m (pieces_at M d k) (first M d k) op op' → (j a : ℕ) → j < length (pieces_at M d k) → a < place_width → (s : Bool)
          → coord_at op' (number_of M d k j s) a ≡ get_or (place M d ++ (cond s (get_or (pieces_at M d k) j no_piece).lo (get_or (pieces_at M d k) j no_piece).hi ∷ [])) a (pos 0)
      at r j a g l true =
          let e : number_of M d k j true ≡ first M d k + j * 2 = omega arith in
          rw (e, S.places_same d h) (r.foot j a g l)
      at r j a g l false = rw (S.places_same d h) (r.head j a g l)

  -- a row's height stands in column m
  pub height-at : (op : List ℤ) (d k j : ℕ) (s : Bool) → d < n → PlacedAt M op d k → j < piece_count M d k → height_at op m (number_of M d k j s) ≡ end_of M d k j s
  height-at op d k j s h p g =
      let H = S.plan.holds in
      let c = S.dims in
      let l : length (place M d) ≡ m = S.plan.valid.coordinates d (rw H.darts h) ∙ H.dims in
      p j s m g (omega arith) ∙ get_or_at (place M d) (end_of M d k j s) [] (pos 0) m l

  -- whatever the row is called
  row-height : (op : List ℤ) (d k j : ℕ) (s : Bool) (q : ℕ) → d < n → PlacedAt M op d k → j < piece_count M d k → q ≡ number_of M d k j s → height_at op m q ≡ end_of M d k j s
  row-height op d k j s q h p g e = ap (height_at op m) e ∙ height-at op d k j s h p g

  pub stacked : (op : List ℤ) (d k x c : ℕ) → d < n → PlacedAt M op d k → x ≡ first M d k → c ≡ piece_count M d k → Stacked op m x c
  stacked op d k x c h p ex ec = record {
    tall = λ j l.
        let g : j < piece_count M d k = rw (← ec) l in
        (λ i. lt_z (row-height op d k j true (x + j * 2) h p g (omega arith) i) (row-height op d k j false (x + j * 2 + 1) h p g (omega arith) i)) ∙ foot-below M d k j g;
    next = λ j l.
        let g : suc j < piece_count M d k = rw (← ec) l in
        (λ i. le_z (row-height op d k j false (x + j * 2 + 1) h p (omega arith) (omega arith) i) (row-height op d k (suc j) true (x + suc j * 2) h p g (omega arith) i))
        ∙ head-below M d k j g;
  }

  rises : (op : List ℤ) (d k x c : ℕ) (s : Bool) → d < n → PlacedAt M op d k → x ≡ first M d k + side s → c ≡ piece_count M d k → Ascends lt_z (feet_from op m x c)
  rises op d k x c s h p ex ec = feet-up op m x c (λ j l.
      let g : suc j < piece_count M d k = rw (← ec) l in
      let a : x + j * 2 ≡ number_of M d k j s = omega arith in
      let b : x + suc j * 2 ≡ number_of M d k (suc j) s = omega arith in
      rw (a, b, height-at op d k j s h p (omega arith), height-at op d k (suc j) s h p g) (foot-rises M d k j g s))

  -- ---- walks by height
  pub block_room : (d k : ℕ) → d < n → k ≤ m → first M d k + piece_count M d k * 2 ≤ room
  block_room d k h l =
      let H = S.plan.holds in
      let a = block_within M S.plan.valid d k (rw H.darts h) (rw H.dims l) in
      let b = S.fits in
      omega arith

  module _ (op : List ℤ) (d k e l : ℕ) (hd : d < n) (hk : k ≤ m) (he : e < n) (hl : l ≤ m) (pd : PlacedAt M op d k) (pe : PlacedAt M op e l) where
    overable : (ol : List ℕ) (a x c y b : ℕ) (s t : Bool) → a < link_width → room * place_width ≤ length op → room * link_width ≤ length ol
        → x ≡ first M d k + side s → c ≡ piece_count M d k → y ≡ first M e l + side t → b ≡ piece_count M e l → Overable op m ol a x c y b
    overable ol a x c y b s t ha lo ll ex ec ey eb =
        let f = S.few in
        let u = S.dims in
        let rd = block_room d k hd hk in
        let re = block_room e l he hl in
        let ss = side-small s in
        let st = side-small t in
        record {
          axis = ha;
          column = omega arith;
          own = omega arith;
          other = omega arith;
          own_links = omega arith;
          own_places = omega arith;
          other_places = omega arith;
          up = rises op d k x c s hd pd ex ec;
          other_up = rises op e l y b t he pe ey eb;
        }

    pub alike : (x c y b : ℕ) → x ≡ first M d k → c ≡ piece_count M d k → y ≡ first M e l → b ≡ piece_count M e l
        → ((j i : ℕ) (s : Bool) → j < piece_count M d k → i < piece_count M e l → end_of M d k j s ≡ end_of M e l i s → end_of M d k j (not s) ≡ end_of M e l i (not s))
        → Alike op m x c y b
    alike x c y b ex ec ey eb f = record {
      heads = λ j i hj hi q. go j i true (x + j * 2) (y + i * 2) (x + j * 2 + 1) (y + i * 2 + 1) (rw (← ec) hj) (rw (← eb) hi) (omega arith) (omega arith) (omega arith) (omega arith) q;
      feet = λ j i hj hi q. go j i false (x + j * 2 + 1) (y + i * 2 + 1) (x + j * 2) (y + i * 2) (rw (← ec) hj) (rw (← eb) hi) (omega arith) (omega arith) (omega arith) (omega arith) q;
    }
      where
        go : (j i : ℕ) (s : Bool) (p q p' q' : ℕ) → j < piece_count M d k → i < piece_count M e l → p ≡ number_of M d k j s → q ≡ number_of M e l i s
            → p' ≡ number_of M d k j (not s) → q' ≡ number_of M e l i (not s) → height_at op m p ≡ height_at op m q → height_at op m p' ≡ height_at op m q'
        go j i s p q p' q' hj hi ep eq ep' eq' h =
            row-height op d k j (not s) p' hd pd hj ep'
            ∙ f j i s hj hi (sym (row-height op d k j s p hd pd hj ep) ∙ h ∙ row-height op e l i s q he pe hi eq)
            ∙ sym (row-height op e l i (not s) q' he pe hi eq')

    -- ---- walks that join the two
    module _ (x c y b : ℕ) (ex : x ≡ first M d k) (ec : c ≡ piece_count M d k) (ey : y ≡ first M e l) (eb : b ≡ piece_count M e l) where
      pub joinable : ((d ≡ e) × (k ≡ l) → ⊥) → (a : ℕ) (ol : List ℕ) → a < link_width → room * place_width ≤ length op → room * link_width ≤ length ol → Joinable op m ol a x c y b
      joinable o a ol ha lo ll =
          let H = S.plan.holds in
          record {
            apart = rw (ex, ec, ey, eb) (block_apart M d k e l (rw H.darts hd) (rw H.darts he) (rw H.dims hk) (rw H.dims hl) o);
            links = (let r = block_room e l he hl in omega arith);
            walks = (
              overable ol a x c y b true true ha lo ll (omega arith) ec (omega arith) eb,
              overable ol a (x + 1) c (y + 1) b false false ha lo ll (omega arith) ec (omega arith) eb,
            );
          }

      pub joined-read : (a : ℕ) {ol ol' : List ℕ} → Joined op m a x c y b ol ol' → Ways M a d k e l ol ol'
      joined-read a {ol} {ol'} p = record {
        met = λ j i s hj hi q. rw (own_at j s, other_at i s) at (p.met j i s (rw ec hj) (rw eb hi) (level j i s hj hi q));
        own_missed = λ j s hj ne. rw (own_at j s) at (p.own_missed j s (rw ec hj) (λ i hi q. let hi' : i < piece_count M e l = rw (← eb) hi in ne i hi' (unlevel j i s hj hi' q)));
        other_missed = λ i s hi ne. rw (other_at i s) at (p.other_missed i s (rw eb hi) (λ j hj q. let hj' : j < piece_count M d k = rw (← ec) hj in ne j hj' (sym (unlevel j i s hj' hi q))));
        rest = λ q b' lb o. p.rest q b' lb (λ r. rw (ex, ec, ey, eb) (o r));
      }
        where
          own_at : (j : ℕ) (s : Bool) → x + j * 2 + side s ≡ number_of M d k j s
          own_at j s = omega arith

          other_at : (i : ℕ) (s : Bool) → y + i * 2 + side s ≡ number_of M e l i s
          other_at i s = omega arith

          level : (j i : ℕ) (s : Bool) → j < piece_count M d k → i < piece_count M e l → end_of M d k j s ≡ end_of M e l i s
              → height_at op m (x + j * 2 + side s) ≡ height_at op m (y + i * 2 + side s)
          level j i s hj hi q = row-height op d k j s _ hd pd hj (own_at j s) ∙ q ∙ sym (row-height op e l i s _ he pe hi (other_at i s))

          unlevel : (j i : ℕ) (s : Bool) → j < piece_count M d k → i < piece_count M e l → height_at op m (x + j * 2 + side s) ≡ height_at op m (y + i * 2 + side s)
              → end_of M d k j s ≡ end_of M e l i s
          unlevel j i s hj hi q = sym (row-height op d k j s _ hd pd hj (own_at j s)) ∙ q ∙ row-height op e l i s _ he pe hi (other_at i s)

  -- ---- a walk from a block to itself
  module _ (op : List ℤ) (d k : ℕ) (hd : d < n) (hk : k ≤ m) (pd : PlacedAt M op d k) (x c : ℕ) (ex : x ≡ first M d k) (ec : c ≡ piece_count M d k) where
    pub crossable : (a : ℕ) (ol : List ℕ) → a < link_width → room * place_width ≤ length op → room * link_width ≤ length ol → Crossable op m ol a x c (x + 1) x c
    crossable a ol ha lo ll = (
      overable op d k d k hd hk hd hk pd pd ol a x c (x + 1) c true false ha lo ll (omega arith) ec (omega arith) ec,
      overable op d k d k hd hk hd hk pd pd ol a (x + 1) c x c false true ha lo ll (omega arith) ec (omega arith) ec,
    )

    pub cross-read : (a : ℕ) {ol ol' : List ℕ} → Crossed op m a x c (x + 1) x c ol ol' → Cross M a d k ol ol'
    cross-read a {ol} {ol'} p = record {
      met = λ j i s hj hi q. rw (own_row j s, other_row i s) at (p.met j i s (rw ec hj) (rw ec hi) (level j i s hj hi q));
      missed = λ j s hj ne. rw (own_row j s) at (p.missed j s (rw ec hj) (λ i hi q. let hi' : i < piece_count M d k = rw (← ec) hi in ne i hi' (unlevel j i s hj hi' q)));
      other = λ q b lb o. p.other q b lb (λ r. rw (ex, ec) (o r));
    }
      where
        own_row : (j : ℕ) (s : Bool) → x + j * 2 + side s ≡ number_of M d k j s
        own_row j s = omega arith

        other_row : (i : ℕ) (s : Bool) → cond s (x + 1) x + i * 2 ≡ number_of M d k i (not s)
        other_row i true = omega arith
        other_row i false = omega arith

        level : (j i : ℕ) (s : Bool) → j < piece_count M d k → i < piece_count M d k → end_of M d k j s ≡ end_of M d k i (not s)
            → height_at op m (x + j * 2 + side s) ≡ height_at op m (cond s (x + 1) x + i * 2)
        level j i s hj hi q = row-height op d k j s _ hd pd hj (own_row j s) ∙ q ∙ sym (row-height op d k i (not s) _ hd pd hi (other_row i s))

        unlevel : (j i : ℕ) (s : Bool) → j < piece_count M d k → i < piece_count M d k → height_at op m (x + j * 2 + side s) ≡ height_at op m (cond s (x + 1) x + i * 2)
            → end_of M d k j s ≡ end_of M d k i (not s)
        unlevel j i s hj hi q = sym (row-height op d k j s _ hd pd hj (own_row j s)) ∙ q ∙ row-height op d k i (not s) _ hd pd hi (other_row i s)

  -- ---- two levels of a dart with as many pieces
  pub same_read : (d k l x c y a : ℕ) {ol ol' : List ℕ} → suc l ≡ k → d < n → k ≤ m → x ≡ first M d k → c ≡ piece_count M d k → y ≡ first M d l → c ≡ piece_count M d l
      → Same a x c y ol ol' → Ways M a d k d l ol ol'
  same_read d k l x c y a {ol} {ol'} up h hk ex ec ey eb p = record {
    met = λ j i s hj hi q.
        let e : i ≡ j = ends-once M d l s i j hi (omega arith) (sym q ∙ alike j s hj) in
        let z = side-small s in
        let u : number_of M d k j s ≡ x + (j * 2 + side s) = omega arith in
        let v : number_of M d l i s ≡ y + (j * 2 + side s) = omega arith in
        rw (u, v) (p.up (j * 2 + side s) (omega arith), p.down (j * 2 + side s) (omega arith));
    own_missed = λ j s hj ne. absurd (ne j (omega arith) (alike j s hj));
    other_missed = λ i s hi ne. absurd (ne i (omega arith) (sym (alike i s (omega arith))));
    rest = λ q b' lb o. p.other q b' lb (λ r. (rw (ey, eb) (o r).1, rw (ex, ec) (o r).0));
  }
    where
      H : M.dim ≡ m
      H = S.plan.holds.dims

      alike : (j : ℕ) (s : Bool) → j < piece_count M d k → end_of M d k j s ≡ end_of M d l j s
      alike j s g = levels-same M S.plan.valid d k l up (rw S.plan.holds.darts h) (let z = H in omega arith) (sym ec ∙ eb) s j g
