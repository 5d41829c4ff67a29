-- Whether a run goes on.
--     on-true, on-false                  what is known then
use Rattle.std.proofs.Common.{◌≡◌, ℕ, suc, ◌*◌, ◌<◌, ◌≤◌, Bool, true, false, ◌&&◌, ltb, leb, ◌⊎◌, refl, inl, inr, ltb-false, ltb-true, leb-false, leb-true}
use Rattle.paper.specs.Width.{reply_width}
use Rattle.theory.proofs.Bool.{and_both}
use Rattle.progress.specs.declared.Progress.{Progress}
use Rattle.progress.specs.Progress.{goes_on}

module _ (bytes memory : ℕ) (p : Progress) where
  pub on-true : goes_on bytes memory p ≡ true → (p.at < bytes) × (reply_width * suc p.taken ≤ memory)
  unfolding goes_on
  on-true e =
      let b = and_both (ltb p.at bytes) (leb (reply_width * suc p.taken) memory) e in
      (ltb-true p.at bytes b.0, leb-true (reply_width * suc p.taken) memory b.1)

  pub on-false : goes_on bytes memory p ≡ false → (bytes ≤ p.at) ⊎ (memory < reply_width * suc p.taken)
  unfolding goes_on
  on-false e = go (ltb p.at bytes) refl e
    where
      go : (b : Bool) → ltb p.at bytes ≡ b → (b && leb (reply_width * suc p.taken) memory) ≡ false → (bytes ≤ p.at) ⊎ (memory < reply_width * suc p.taken)
      go true q f = inr (leb-false (reply_width * suc p.taken) memory f)
      go false q f = inl (ltb-false p.at bytes q)
