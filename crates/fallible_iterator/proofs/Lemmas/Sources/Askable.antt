-- Why a std iterator may be drawn again and again.
use Rattle.std.specs.Prelude.{◌≡◌, ◌≤◌, false, Option, Some, None, Ok, Err, List, [], ◌∷◌}
use Rattle.std.specs.Iterator.{Count, IsFinite, size, count_unless}
use Rattle.std.specs.Iterator.Adapters.{fuse_source, fuse_done, fuse_steps}
use Rattle.std.specs.declared.iter.Fuse.{Fuse}
use Rattle.std.proofs.Common.{rules, subst}
use Rattle.fallible_contract.specs.Traces.{Answered, Run}
use Rattle.fallible_iterator.specs.Sources.Std.{std_step, IsAskable}

module _ {S A E Z : Type 0} (of_item : A → Z) (of_failure : E → Z) (can : S → Type 0) (gives : S → Option Z → S → Type 0) (remaining : S → Count) (again : (t u : S) → can t → gives t None u → can u) where
  can_be_drawn_after_run : (trace : List (Answered A E)) (s t : S) → can s → Run (std_step of_item of_failure can gives remaining) s trace t → can t
  can_be_drawn_after_run [] s t c same = subst can same c
  can_be_drawn_after_run (Ok (Some x) ∷ rest) s t c h = can_be_drawn_after_run rest h.0 t h.1.1.keeps h.2
  can_be_drawn_after_run (Ok None ∷ rest) s t c h = can_be_drawn_after_run rest h.0 t (again s h.0 c h.1.0) h.2
  can_be_drawn_after_run (Err e ∷ rest) s t c h = can_be_drawn_after_run rest h.0 t h.1.1.keeps h.2

  -- one that may be drawn again after a `None`, at which its bound doesn't rise
  pub is_askable_by_again : ((t u : S) → can t → gives t None u → IsFinite (remaining t) → size (remaining u) ≤ size (remaining t)) → (s : S) → can s → IsAskable {A = A} {E = E} of_item of_failure can gives remaining s
  is_askable_by_again low s c = record {
    asked = λ trace t ran. can_be_drawn_after_run trace s t c ran;
    never_rises = λ trace t u ran h. low t u (can_be_drawn_after_run trace s t c ran) h.0;
  }

module _ {S A E Z : Type 0} (of_item : A → Z) (of_failure : E → Z) (can : S → Type 0) (gives : S → Option Z → S → Type 0) (remaining : S → Count) where
  abbrev CanBeDrawnFused : Fuse S → Type 0
  CanBeDrawnFused s = fuse_done s ≡ false → can (fuse_source s)

  abbrev remaining_fused : Fuse S → Count
  remaining_fused s = count_unless (fuse_done s) (remaining (fuse_source s))

  fused_is_drawn_again : (t u : Fuse S) → CanBeDrawnFused t → fuse_steps gives t None u → CanBeDrawnFused u
  fused_is_drawn_again t u c h = λ e. search rules

  bound_of_fused_is_no_greater : (t u : Fuse S) → fuse_steps gives t None u → size (remaining_fused u) ≤ size (remaining_fused t)
  bound_of_fused_is_no_greater t u h = search rules

  -- one that is fused, whatever its source does after a `None`
  pub is_askable_fused : (s : Fuse S) → CanBeDrawnFused s → IsAskable {A = A} {E = E} of_item of_failure CanBeDrawnFused (fuse_steps gives) remaining_fused s
  is_askable_fused = is_askable_by_again of_item of_failure CanBeDrawnFused (fuse_steps gives) remaining_fused fused_is_drawn_again (λ t u c h f. bound_of_fused_is_no_greater t u h)
