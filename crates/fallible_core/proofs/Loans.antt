-- Steps of walks that lend a `&mut` again and hand a loan on. Assumes `Logic`.
use Rattle.std.proofs.Common.{ℕ, [], ◌∷◌}
use mathlib.Core.Option as machine
use seplogic.Ra.Ura.{Ura}
use base.Logic.{SProp, ent, sep, ex, ex_i, ex_e, wand, wand_i, apply∗}
use base.Fml.{Lft, GName, Share, flft, fdead}
use base.Fraction.{full_share}
use base.FractionLaws.{common}
use base.Stored.{Gv}
use contract.BorrowLft.{meet_⊑_left}
use denote.Follow.{follows_by, such_by}
use types.Kit.{‵, raw, ◌⊛◌, ◌$◌, ◌∵◌, !, qed, move, use1, use2, split, updating, now as at_once, show, done}
use types.Logic.{Logic, sem}
use types.Tokens.{lft_new, lft_end, lft-common}

module _ {M : Type 1} {𝓤 : Ura M} (𝓛 : Logic 𝓤) where
  open 𝓛 use {H, A}

  module _ (κ : Lft) (q : Share) where
    -- the way to end a lifetime inside κ, which gives κ's token back
    abbrev pub LifetimeEnds : ℕ → Share → SProp 𝓤
    LifetimeEnds a s = wand 𝓤 (A.lft (a ∷ κ) s) (H.⇛ (sep 𝓤 (A.dead (a ∷ κ)) (A.lft κ q)))

    abbrev pub Begun : ℕ × Share → SProp 𝓤
    Begun p = sep 𝓤 (A.lft (p.0 ∷ κ) p.1) (LifetimeEnds p.0 p.1)

    -- a new lifetime inside κ, with its token, and the way to end it
    pub begins : ent 𝓤 (A.lft κ q) (H.⇛ (ex 𝓤 Begun))
    begins =
        qed 𝓛 (‵ (flft κ q) ∷ []) ∵ updating ! $ lft_new ! tt (λ a.
        let s : Share = (common full_share q).0 in
        let Back : SProp 𝓤 = wand 𝓤 (A.lft (a ∷ κ) s) (sep 𝓤 (A.lft (a ∷ []) full_share) (A.lft κ q)) in
        use2 𝓛 (‵ (flft (a ∷ κ) s) ⊛ raw Back) (lft-common 𝓛 (a ∷ []) κ full_share q) $ split ! $ move ! (1 ∷ []) $
        use1 𝓛 (raw (LifetimeEnds a s)) (wand_i 𝓤 Back (A.lft (a ∷ κ) s) _ (qed 𝓛 (raw Back ∷ ‵ (flft (a ∷ κ) s) ∷ []) ∵ updating ! $ move ! (1 ∷ 0 ∷ []) $
        use2 𝓛 (‵ (flft (a ∷ []) full_share) ⊛ ‵ (flft κ q)) (apply∗ 𝓤 (A.lft (a ∷ κ) s) (sep 𝓤 (A.lft (a ∷ []) full_share) (A.lft κ q))) $ split ! $ lft_end ! tt $
        use1 𝓛 (‵ (fdead (a ∷ κ))) (𝓛.lfts.dead-incl (a ∷ κ) (a ∷ []) (meet_⊑_left (a ∷ []) κ)) $ at_once ! $ done !)) $
        at_once ! $ show ! Begun (a, s) $ move ! (1 ∷ 0 ∷ []) $ done !)

  -- what is said of the lender's last value may be weakened
  pub said_less : (D E : Type 0) (c : D → Gv) (e : E → Gv) (γ : GName) (m : machine.Option GName) (P : E → D → Type 0) (Q Q' : D → Type 0) → ((v : D) → Q v → Q' v) → ent 𝓤 (sem 𝓛 (such_by D E c e γ m P Q)) (sem 𝓛 (such_by D E c e γ m P Q'))
  unfolding such_by
  said_less D E c e γ m P Q Q' k = ex_e 𝓤 _ (λ s. ex_i 𝓤 (λ (t : (p : (E → D) × D) × ((w : E) → P w (p.0 w)) × Q' p.1). sem 𝓛 (follows_by D E c e γ m t.0.0 t.0.1)) (s.0, s.1, k s.0.1 s.2))
