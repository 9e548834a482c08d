-- A type whose value shows what it lists is lawful, and lists that.
use Rattle.std.specs.Prelude.{◌≡◌, ℕ, zero, suc, ◌<◌, length, drop, Result, Some, None, Ok, Err, List, [], ◌∷◌}
use Rattle.std.proofs.Common.{refl, sym, ap, subst, ◌∙◌, arith}
use Rattle.fallible_contract.specs.Traces.{Answered, Run}
use Rattle.fallible_contract.specs.Laws.Sound.{own_hold}
use Rattle.fallible_contract.specs.Contract.{OnAnswer, Lawful, NeverFails}
use Rattle.fallible_contract.specs.Lists.{AlwaysGives, Lists, items}
use Rattle.fallible_contract.specs.Showing.{TakesShown, first_answers, TakesAllShown, listing}
use Rattle.fallible_contract.specs.Laws.LawForm.{IsTraced}

module _ {A E : Type 0} where
  -- what stood before a draw that returned r and left this list
  abbrev pub before_answer : Answered A E → List (Result A E) → List (Result A E)
  before_answer (Ok (Some x)) rest = Ok x ∷ rest
  before_answer (Ok None) rest = []
  before_answer (Err e) rest = Err e ∷ rest

  -- The list that was shown begins with the answer, and is empty at an end. So an item and a failure make what is shown shorter.
  pub shown_before : (l : List (Result A E)) (r : Answered A E) (rest : List (Result A E)) → TakesShown l r rest → l ≡ before_answer r rest
  shown_before [] r rest w = rw w.0 refl
  shown_before (Ok x ∷ l) r rest w = rw (w.0, w.1) refl
  shown_before (Err e ∷ l) r rest w = rw (w.0, w.1) refl

-- ---- what runs take

module _ {S A E : Type 0} (shows : S → List (Result A E)) where
  takes_first_of_shown : (l : List (Result A E)) (r : Answered A E) (rest : List (Result A E)) → TakesShown l r rest → (rest ≡ drop 1 l) × ((k : ℕ) → r ∷ first_answers k rest ≡ first_answers (suc k) l)
  takes_first_of_shown [] r rest w = (rw w.1 refl, (λ k. rw (w.0, w.1) refl))
  takes_first_of_shown (y ∷ l) r rest w = (rw w.1 refl, (λ k. rw (w.0, w.1) refl))

  drop_of_drop_one : (n : ℕ) (l : List (Result A E)) → drop n (drop 1 l) ≡ drop (suc n) l
  drop_of_drop_one zero [] = refl
  drop_of_drop_one (suc n) [] = refl
  drop_of_drop_one n (y ∷ l) = refl

  between_shown : (s u : S) (r : Answered A E) (n k : ℕ) → shows u ≡ drop 1 (shows s) → ((i : ℕ) → i < k → (v : S) × (shows v ≡ drop i (shows u))) → n < suc k → (v : S) × (shows v ≡ drop n (shows s))
  between_shown s u r zero k left each within = (s, refl)
  between_shown s u r (suc n) k left each within = let h = each n (omega (arith, within)) in (h.0, h.1 ∙ ap (drop n) left ∙ drop_of_drop_one n (shows s))

  takes_all_of_run : (trace : List (Answered A E)) (s t : S) → Run (listing shows).steps s trace t → TakesAllShown shows s trace t
  takes_all_of_run [] s t ran = record { answers = refl; rest = sym (ap shows ran); between = λ n within. absurd (omega (arith, within)); none = λ e. ran }
  takes_all_of_run (r ∷ rest) s t ran = let h = takes_all_of_run rest ran.0 t ran.2 in let first = takes_first_of_shown (shows s) r (shows ran.0) ran.1 in record {
    answers = ap (λ l. r ∷ l) h.answers ∙ first.1 (length rest);
    rest = h.rest ∙ ap (drop (length rest)) first.0 ∙ drop_of_drop_one (length rest) (shows s);
    between = λ n within. between_shown s ran.0 r n (length rest) first.0 h.between within;
    none = λ e. absurd (let k = e in cc);
  }

  takes_shown_of_first : (l : List (Result A E)) (r : Answered A E) (more : List (Answered A E)) (rest : List (Result A E)) (k : ℕ) → r ∷ more ≡ first_answers (suc k) l → rest ≡ drop 1 l → TakesShown l r rest × (more ≡ first_answers k rest)
  takes_shown_of_first [] r more rest k is left = (((let h = is in cc), left), (rw left (let h = is in cc)))
  takes_shown_of_first (y ∷ l) r more rest k is left = (((let h = is in cc), left), (rw left (let h = is in cc)))

  run_of_takes_all : (trace : List (Answered A E)) (s t : S) → TakesAllShown shows s trace t → Run (listing shows).steps s trace t
  run_of_takes_all [] s t d = d.none refl
  run_of_takes_all (r ∷ []) s t d = (t, (takes_shown_of_first (shows s) r [] (shows t) 0 d.answers d.rest).0, refl)
  run_of_takes_all (r ∷ q ∷ rest) s t d =
      let u = d.between 1 (omega arith) in
      let first = takes_shown_of_first (shows s) r (q ∷ rest) (shows u.0) (length (q ∷ rest)) d.answers u.1 in (
        u.0,
        first.0,
        run_of_takes_all (q ∷ rest) u.0 t (record {
          answers = first.1;
          rest = d.rest ∙ sym (ap (drop (length (q ∷ rest))) u.1 ∙ drop_of_drop_one (length (q ∷ rest)) (shows s));
          between = λ n within. let v = d.between (suc n) (omega (arith, within)) in (v.0, v.1 ∙ sym (ap (drop n) u.1 ∙ drop_of_drop_one n (shows s)));
          none = λ e. absurd (let k = e in cc);
        }),
      )

  pub listing_traced : IsTraced (listing shows).steps (TakesAllShown shows)
  listing_traced s trace t = (takes_all_of_run trace s t, run_of_takes_all trace s t)

module _ {S A E : Type 0} (shows : S → List (Result A E)) where
  always_gives_shown : (l : List (Result A E)) (s : S) → shows s ≡ l → AlwaysGives (listing shows).steps s l
  always_gives_shown [] s e = λ r t w. (subst (λ (k : List (Result A E)). TakesShown k r (shows t)) e w).0
  always_gives_shown (y ∷ l) s e = λ r t w. let h = subst (λ (k : List (Result A E)). TakesShown k r (shows t)) e w in (h.0, always_gives_shown l t h.1)

  pub lists_shown : (s : S) → Lists (listing shows).steps s (shows s)
  lists_shown s = record { runs = always_gives_shown (shows s) s refl }

  on_answer_shown : (s t : S) (l : List (Result A E)) (r : Answered A E) → shows s ≡ l → TakesShown l r (shows t) → OnAnswer (listing shows) s r t
  on_answer_shown s t [] (Ok (Some x)) e w = absurd (let h = w.0 in cc)
  on_answer_shown s t [] (Err d) e w = absurd (let h = w.0 in cc)
  on_answer_shown s t [] (Ok None) e w = let same = ap length w.1 ∙ ap length (sym e) in ((λ n b. (length (shows t), omega arith, omega (arith, same, b))), (λ f. (tt, omega (arith, same))))
  on_answer_shown s t (Ok y ∷ l) (Ok (Some x)) e w = let now = ap length e in let then = ap length w.1 in (tt, (λ n b. (length (shows t), omega arith, omega (arith, now, then, b))), (λ f. (tt, omega (arith, now, then))))
  on_answer_shown s t (Ok y ∷ l) (Ok None) e w = absurd (let h = w.0 in cc)
  on_answer_shown s t (Ok y ∷ l) (Err d) e w = absurd (let h = w.0 in cc)
  on_answer_shown s t (Err y ∷ l) (Ok (Some x)) e w = absurd (let h = w.0 in cc)
  on_answer_shown s t (Err y ∷ l) (Ok None) e w = absurd (let h = w.0 in cc)
  on_answer_shown s t (Err y ∷ l) (Err d) e w = let now = ap length e in let then = ap length w.1 in (tt, (λ n b. (length (shows t), omega arith, omega (arith, now, then, b))), (λ f. (tt, omega (arith, now, then))))

  pub lawful_listing : Lawful (listing shows)
  lawful_listing = record {
    kept_by_draw = λ s r t c step. record {
      can_next = tt;
      is_finite = λ f. tt;
      answer = on_answer_shown s t (shows s) r refl step;
      may_give = λ x g. tt;
      may_fail = λ e g. tt;
      lenders = refl;
    };
    bounded = λ s. ((λ f. (length (shows s), omega arith)), (λ n. tt));
    traced = listing_traced shows;
    hold = own_hold;
  }

module _ {S A E : Type 0} (shows : S → List (Result A E)) where
  never_fails_where_shown_is_items : (xs : List A) (s : S) → shows s ≡ items xs → NeverFails (listing shows) s
  unfolding items
  never_fails_where_shown_is_items [] s same [] t u e ran fails = let h = shown_before (shows t) (Err e) (shows u) fails in absurd (let k = ap shows ran in cc)
  never_fails_where_shown_is_items (x ∷ xs) s same [] t u e ran fails = let h = shown_before (shows t) (Err e) (shows u) fails in absurd (let k = ap shows ran in cc)
  never_fails_where_shown_is_items [] s same (r ∷ rest) t u e ran fails = let h = subst (λ (k : List (Result A E)). TakesShown k r (shows ran.0)) same ran.1 in never_fails_where_shown_is_items [] ran.0 h.1 rest t u e ran.2 fails
  never_fails_where_shown_is_items (x ∷ xs) s same (r ∷ rest) t u e ran fails = let h = subst (λ (k : List (Result A E)). TakesShown k r (shows ran.0)) same ran.1 in never_fails_where_shown_is_items xs ran.0 h.1 rest t u e ran.2 fails

  -- a type that shows items alone never fails
  pub never_fails_shown : (s : S) (xs : List A) → shows s ≡ items xs → NeverFails (listing shows) s
  never_fails_shown s xs same = never_fails_where_shown_is_items xs s same
