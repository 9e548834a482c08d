-- The runs of `Chain` are its definition, over all that its sides return.
use Rattle.std.specs.Prelude.{◌≡◌, ◌≢◌, false, List, [], ◌∷◌, ◌++◌, ◌↔◌}
use Rattle.std.proofs.Common.{refl, sym, ap, subst, inl, inr}
use Rattle.fallible_contract.specs.Traces.{Answered, Run, end, NoEnd, is_end}
use Rattle.fallible_contract.specs.Laws.LawForm.{IsTraced, run_of_whole_list, list_is_trace}
use Rattle.fallible_core.specs.Joining.Chain.{JoinedTrace, ChainTrace, chains_all, chain_step, chain_back}
use Rattle.fallible_core.specs.declared.joining.chain.StillDrawn.{StillDrawn}
use Rattle.fallible_core.specs.declared.joining.chain.StillDrawn.TheVariants.{Both, FirstAlone, SecondAlone}

module _ {S U A E : Type 0} (steps : S → Answered A E → S → Type 0) (others : U → Answered A E → U → Type 0) where
  abbrev StepOfChain : S × U × StillDrawn → Answered A E → S × U × StillDrawn → Type 0
  StepOfChain = chain_step steps others

  chain_trace_of_run_of_first_alone : (trace : List (Answered A E)) (s : S) (u : U) (t : S) (v : U) (after : StillDrawn) → Run StepOfChain (s, u, FirstAlone) trace (t, v, after) → ChainTrace steps others (s, u, FirstAlone) (trace) (t, v, after)
  chain_trace_of_run_of_first_alone [] s u t v after e = (ap (λ p. p.0) e, sym (ap (λ p. p.1) e), sym (ap (λ p. p.2) e))
  chain_trace_of_run_of_first_alone (r ∷ rest) s u t v after h = let p = chain_trace_of_run_of_first_alone rest h.0.0 u t v after (rw (h.1.1, h.1.2) at h.2) in ((h.0.0, h.1.0, p.0), p.1, p.2)

  chain_trace_of_run_of_second_alone : (trace : List (Answered A E)) (s : S) (u : U) (t : S) (v : U) (after : StillDrawn) → Run StepOfChain (s, u, SecondAlone) trace (t, v, after) → ChainTrace steps others (s, u, SecondAlone) (trace) (t, v, after)
  chain_trace_of_run_of_second_alone [] s u t v after e = (ap (λ p. p.1) e, sym (ap (λ p. p.0) e), sym (ap (λ p. p.2) e))
  chain_trace_of_run_of_second_alone (r ∷ rest) s u t v after h = let p = chain_trace_of_run_of_second_alone rest s h.0.1 t v after (rw (h.1.1, h.1.2) at h.2) in ((h.0.1, h.1.0, p.0), p.1, p.2)

  -- an answer of the first before those of a trace
  chain_trace_with_answer_of_first : (s x t : S) (u v : U) (after : StillDrawn) (r : Answered A E) (rest : List (Answered A E)) → steps s r x → is_end r ≡ false → ChainTrace steps others (x, u, Both) (rest) (t, v, after) → ChainTrace steps others (s, u, Both) (r ∷ rest) (t, v, after)
  chain_trace_with_answer_of_first s x t u v after r rest step e (inl p) = inl ((x, step, p.0), (e, p.1), p.2, p.3)
  chain_trace_with_answer_of_first s x t u v after r rest step e (inr p) = let j = p.0 in inr (
    record { before_end = r ∷ j.before_end; second_trace = j.second_trace; first_drawn = (x, step, j.first_drawn); no_end = (e, j.no_end); second_drawn = j.second_drawn; not_empty = j.not_empty; answers = ap {B = List (Answered A E)} (λ l. r ∷ l) j.answers },
    p.1,
  )

  -- the first's end, and then answers of the second
  joined_trace_where_first_ends : (s x t : S) (u y v : U) (r : Answered A E) (rest : List (Answered A E)) → steps s end x → others u r y → Run others y rest v → t ≡ x → JoinedTrace steps others s u (r ∷ rest) t v
  joined_trace_where_first_ends s x t u y v r rest met step ran e = record { before_end = []; second_trace = r ∷ rest; first_drawn = (x, met, sym e); no_end = tt; second_drawn = (y, step, ran); not_empty = λ d. absurd cc; answers = refl }

  chain_trace_of_run_of_both : (trace : List (Answered A E)) (s : S) (u : U) (t : S) (v : U) (after : StillDrawn) → Run StepOfChain (s, u, Both) trace (t, v, after) → ChainTrace steps others (s, u, Both) (trace) (t, v, after)
  chain_trace_of_run_of_both [] s u t v after e = inl (ap (λ p. p.0) e, tt, sym (ap (λ p. p.1) e), sym (ap (λ p. p.2) e))
  chain_trace_of_run_of_both (r ∷ rest) s u t v after h = elim h.1 [
    | inl step ↦ chain_trace_with_answer_of_first s h.0.0 t u v after r rest step.0 step.1 (chain_trace_of_run_of_both rest h.0.0 u t v after (rw (step.2, step.3) at h.2))
    | inr step ↦ let p = chain_trace_of_run_of_second_alone rest h.0.0 h.0.1 t v after (rw step.2 at h.2) in inr (joined_trace_where_first_ends s h.0.0 t u h.0.1 v r rest step.0 step.1 p.0 p.1, p.2)
  ]

  pub run_from_first : (trace : List (Answered A E)) (s : S) (u : U) (t : S) → Run steps s trace t → Run StepOfChain (s, u, FirstAlone) trace (t, u, FirstAlone)
  run_from_first [] s u t ran = rw ran refl
  run_from_first (r ∷ rest) s u t ran = ((ran.0, u, FirstAlone), (ran.1, refl, refl), run_from_first rest ran.0 u t ran.2)

  pub run_from_second : (trace : List (Answered A E)) (s : S) (u : U) (v : U) → Run others u trace v → Run StepOfChain (s, u, SecondAlone) trace (s, v, SecondAlone)
  run_from_second [] s u v ran = rw ran refl
  run_from_second (r ∷ rest) s u v ran = ((s, ran.0, SecondAlone), (ran.1, refl, refl), run_from_second rest s ran.0 v ran.2)

  pub run_from_both : (trace : List (Answered A E)) (s : S) (u : U) (t : S) → Run steps s trace t → NoEnd trace → Run StepOfChain (s, u, Both) trace (t, u, Both)
  run_from_both [] s u t ran no_end = rw ran refl
  run_from_both (r ∷ rest) s u t ran no_end = ((ran.0, u, Both), inl (ran.1, no_end.0, refl, refl), run_from_both rest ran.0 u t ran.2 no_end.1)

  pub run_from_joined : (before trace : List (Answered A E)) (s : S) (u : U) (t : S) (v : U) → Run steps s (before ++ end ∷ []) t → NoEnd before → Run others u trace v → trace ≢ [] → Run StepOfChain (s, u, Both) (before ++ trace) (t, v, SecondAlone)
  run_from_joined [] [] s u t v ran no_end second some = absurd (some refl)
  run_from_joined [] (r ∷ rest) s u t v ran no_end second some = rw⁻¹ ran.2 ((ran.0, second.0, SecondAlone), inr (ran.1, second.1, refl), run_from_second rest ran.0 second.0 v second.2)
  run_from_joined (r ∷ before) trace s u t v ran no_end second some = ((ran.0, u, Both), inl (ran.1, no_end.0, refl, refl), run_from_joined before trace ran.0 u t v ran.2 no_end.1 second some)

  chain_run_of_chain_trace_of_both : (trace : List (Answered A E)) (s : S) (u : U) (t : S) (v : U) (after : StillDrawn) → ChainTrace steps others (s, u, Both) (trace) (t, v, after) → Run StepOfChain (s, u, Both) trace (t, v, after)
  chain_run_of_chain_trace_of_both trace s u t v after (inl p) = rw (p.2, p.3) (run_from_both trace s u t p.0 p.1)
  chain_run_of_chain_trace_of_both trace s u t v after (inr p) = let j = p.0 in rw (j.answers, p.1) (run_from_joined j.before_end j.second_trace s u t v j.first_drawn j.no_end j.second_drawn j.not_empty)

  pub chain_law : (p : S × U × StillDrawn) (trace : List (Answered A E)) (q : S × U × StillDrawn) → Run StepOfChain p trace q ↔ ChainTrace steps others p trace q
  chain_law (s, u, Both) trace (t, v, after) = (chain_trace_of_run_of_both trace s u t v after, chain_run_of_chain_trace_of_both trace s u t v after)
  chain_law (s, u, FirstAlone) trace (t, v, after) = (chain_trace_of_run_of_first_alone trace s u t v after, (λ p. rw (p.1, p.2) (run_from_first trace s u t p.0)))
  chain_law (s, u, SecondAlone) trace (t, v, after) = (chain_trace_of_run_of_second_alone trace s u t v after, (λ p. rw (p.1, p.2) (run_from_second trace s u v p.0)))

module _ {S U A E : Type 0} {steps : S → Answered A E → S → Type 0} {others : U → Answered A E → U → Type 0} {first : S → List (Answered A E) → S → Type 0} {second : U → List (Answered A E) → U → Type 0} (law : IsTraced steps first) (law_second : IsTraced others second) where
  chains_all_of_chain_trace : (p : S × U × StillDrawn) (trace : List (Answered A E)) (q : S × U × StillDrawn) → ChainTrace steps others p trace q → chains_all first second p trace q
  chains_all_of_chain_trace (s, u, Both) trace q (inl h) = (trace, [], (law s trace q.0).0 h.0, (law_second u [] q.1).0 (sym h.2), inl (run_of_whole_list trace, h.1, refl, h.3))
  chains_all_of_chain_trace (s, u, Both) trace q (inr h) = (h.0.before_end ++ end ∷ [], h.0.second_trace, (law s (h.0.before_end ++ end ∷ []) q.0).0 h.0.first_drawn, (law_second u h.0.second_trace q.1).0 h.0.second_drawn, inr (record { before_end = h.0.before_end; second_trace = h.0.second_trace; first_drawn = run_of_whole_list (h.0.before_end ++ end ∷ []); no_end = h.0.no_end; second_drawn = run_of_whole_list h.0.second_trace; not_empty = h.0.not_empty; answers = h.0.answers }, h.1))
  chains_all_of_chain_trace (s, u, FirstAlone) trace q h = (trace, [], (law s trace q.0).0 h.0, (law_second u [] q.1).0 (sym h.1), (run_of_whole_list trace, refl, h.2))
  chains_all_of_chain_trace (s, u, SecondAlone) trace q h = ([], trace, (law s [] q.0).0 (sym h.1), (law_second u trace q.1).0 h.0, (run_of_whole_list trace, refl, h.2))

  chain_trace_of_chains_all : (p : S × U × StillDrawn) (trace : List (Answered A E)) (q : S × U × StillDrawn) → chains_all first second p trace q → ChainTrace steps others p trace q
  chain_trace_of_chains_all (s, u, Both) trace q (l, k, f, g, inl h) = inl (subst (λ (m : List (Answered A E)). Run steps s m q.0) (list_is_trace trace l h.0) ((law s l q.0).1 f), h.1, sym (subst (λ (m : List (Answered A E)). Run others u m q.1) (sym h.2) ((law_second u k q.1).1 g)), h.3)
  chain_trace_of_chains_all (s, u, Both) trace q (l, k, f, g, inr h) = inr (record { before_end = h.0.before_end; second_trace = h.0.second_trace; first_drawn = subst (λ (m : List (Answered A E)). Run steps s m q.0) (list_is_trace (h.0.before_end ++ end ∷ []) l h.0.first_drawn) ((law s l q.0).1 f); no_end = h.0.no_end; second_drawn = subst (λ (m : List (Answered A E)). Run others u m q.1) (list_is_trace h.0.second_trace k h.0.second_drawn) ((law_second u k q.1).1 g); not_empty = h.0.not_empty; answers = h.0.answers }, h.1)
  chain_trace_of_chains_all (s, u, FirstAlone) trace q (l, k, f, g, h) = (subst (λ (m : List (Answered A E)). Run steps s m q.0) (list_is_trace trace l h.0) ((law s l q.0).1 f), sym (subst (λ (m : List (Answered A E)). Run others u m q.1) (sym h.1) ((law_second u k q.1).1 g)), h.2)
  chain_trace_of_chains_all (s, u, SecondAlone) trace q (l, k, f, g, h) = (subst (λ (m : List (Answered A E)). Run others u m q.1) (list_is_trace trace k h.0) ((law_second u k q.1).1 g), sym (subst (λ (m : List (Answered A E)). Run steps s m q.0) (sym h.1) ((law s l q.0).1 f)), h.2)

  pub chain_traced : IsTraced (chain_step steps others) (chains_all first second)
  chain_traced p trace q = let both = chain_law steps others p trace q in ((λ ran. chains_all_of_chain_trace p trace q (both.0 ran)), (λ h. both.1 (chain_trace_of_chains_all p trace q h)))

-- seen from the back twice, the sides are as they were
pub chain_back_twice : {S U : Type 0} (p : S × U × StillDrawn) → chain_back (chain_back p) ≡ p
chain_back_twice (s, u, Both) = refl
chain_back_twice (s, u, FirstAlone) = refl
chain_back_twice (s, u, SecondAlone) = refl
