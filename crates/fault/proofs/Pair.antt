-- The search for an axis whose pair with axis j does not lead back.
--     pair-below       no more than the axes two or more below j are to be tried
use Rattle.std.proofs.Common.{◌≡◌, ℕ, suc, ◌+◌, ◌-◌, ◌≤◌, Bool, ◌&&◌, leb, List, arith, le-leb, leb-true}
use Rattle.paper.specs.Below.{any_below}
use Rattle.theory.proofs.Bool.{and_both, and_intro, bool-ext}
use Rattle.theory.proofs.Below.{any-in, any_out}
use Rattle.fault.specs.Fault.{unpaired_by, unpaired}

pub pair-below : (ls : List ℕ) (m d j : ℕ) → j ≤ m → any_below (j - 1) (unpaired_by ls d j) ≡ unpaired ls m d j
unfolding unpaired
pair-below ls m d j h =
    let p : ℕ → Bool = unpaired_by ls d j in
    let q : ℕ → Bool = λ i. leb (i + 2) j && p i in
    bool-ext (any_below (j - 1) p) (any_below (suc m) q)
    (λ t. let r = any_out (j - 1) p t in any-in (suc m) q r.0 (let l = r.1 in omega arith) (and_intro (leb (r.0 + 2) j) (p r.0) (le-leb (r.0 + 2) j (let l = r.1 in omega arith)) r.2))
    (λ t. let r = any_out (suc m) q t in
    let b = and_both (leb (r.0 + 2) j) (p r.0) r.2 in
    any-in (j - 1) p r.0 (let l = leb-true (r.0 + 2) j b.0 in omega arith) b.1)
