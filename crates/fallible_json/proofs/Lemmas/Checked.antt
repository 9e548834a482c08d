-- What a token, the end and a failure are where they may stand, and what the draws of one list.
use Rattle.std.specs.Prelude.{◌≡◌, ⊤, ℕ, ◌<◌, ◌≤◌, ◌⊎◌, Bool, true, false, if◌then◌else◌, min, Option, Some, None, option_map, Ok, Err, Result, List, [], ◌∷◌, length, reverse}
use Rattle.std.proofs.Common.{arith, inl, inr, refl, sym, ap, subst, ◌∙◌}
use Rattle.std.proofs.lemmas.List.{length-reverse}
use Rattle.std.specs.declared.alloc.AllocError.{AllocError}
use Rattle.fallible_iterator.specs.Contract.{Contract, Fewer, KeptByDraws}
use Rattle.fallible_iterator.specs.Fault.{Fault}
use Rattle.fallible_iterator.specs.Fault.TheVariants as fault
use Rattle.fallible_iterator.specs.Laws.Contract.{kept_by_draws_of_stays, kept_by_draws_transitive, stays_reflexive}
use Rattle.fallible_iterator.specs.Lists.{Lists, nth_of, rest_first}
use Rattle.fallible_iterator.specs.Making.{AtRefusal, GivesMade, IsMadeOf, ListsMade}
use Rattle.fallible_iterator.specs.Own.{DrawsOn}
use Rattle.fallible_iterator.specs.Traces.{Answered, end}
use Rattle.fallible_itertools.specs.Ahead.{TakesMade}
use Rattle.fallible_json.specs.Checked.{CheckFault, ChecksAnswer, ChecksOne, IsFirstChecked, IsMemory, IsOverAfter, IsSeen, ListsChecked, LowersAtSome, Seen, StandsAs, TakesChecked, TakesText, Texted, checked, checked_by, checked_contract, checked_step, depth_between, fault_in, faulty, if_item, kind_of, rest_texted, seen_between, text_rules, texted}
use Rattle.fallible_json.specs.Grammar.{State, after_token, is_whole}
use Rattle.fallible_json.specs.Lexing.{Lexeme, Placed}
use Rattle.fallible_json.specs.declared.checked.CheckedToken.{CheckedToken}
use Rattle.fallible_json.specs.declared.checked.Kind.{Kind}
use Rattle.fallible_json.specs.declared.grammar.Container.{Container}
use Rattle.fallible_json.specs.declared.grammar.Expects.{Expects}
use Rattle.fallible_json.specs.declared.lexer.LexFault.{LexFault}
use Rattle.fallible_json.specs.declared.minifying.Misplaced.TheVariants.{Source, Unexpected, Ended}
use Rattle.fallible_json.specs.declared.token.Token.{Token}
use Rattle.fallible_itertools.proofs.Lemmas.Lexing.{lexed_others}

-- ---- the first of a list

module _ {B F : Type 0} where
  first_item : (x : B) (out : List (Result B F)) → Ok (Some x) ≡ nth_of 0 out → out ≡ Ok x ∷ rest_first out
  unfolding nth_of rest_first
  first_item x [] is = absurd (let h : Ok (Some x) ≡ Ok None = is in cc)
  first_item x (Ok y ∷ l) is =
      let h : Ok (Some x) ≡ Ok (Some y) = is in
      let same : y ≡ x = cc in
      ap (λ z. Ok z ∷ l) same
  first_item x (Err e ∷ l) is = absurd (let h : Ok (Some x) ≡ Err e = is in cc)

  first_failure : (e : F) (out : List (Result B F)) → Err e ≡ nth_of 0 out → out ≡ Err e ∷ rest_first out
  unfolding nth_of rest_first
  first_failure e [] is = absurd (let h : Err e ≡ Ok None = is in cc)
  first_failure e (Ok y ∷ l) is = absurd (let h : Err e ≡ Ok (Some y) = is in cc)
  first_failure e (Err d ∷ l) is =
      let h : Err e ≡ Err d = is in
      let same : d ≡ e = cc in
      ap (λ z. Err z ∷ l) same

  first_none : (out : List (Result B F)) → Ok None ≡ nth_of 0 out → out ≡ []
  unfolding nth_of
  first_none [] is = refl
  first_none (Ok y ∷ l) is = absurd (let h : Ok None ≡ Ok (Some y) = is in cc)
  first_none (Err d ∷ l) is = absurd (let h : Ok None ≡ Err d = is in cc)

-- ---- one token

-- what a token is between two states, by the containers that are open
pub seen_of : (before after : List Container) (here there : Expects) (first last depth : ℕ) (token : Token) (text : List ℕ) (kind : Kind) → kind_of here token text ≡ Some kind → depth ≡ min (length before) (length after) → seen_between (reverse before, here) (reverse after, there) ((first, last, token), text) ≡ Some (kind, depth, first, last, text)
seen_of before after here there first last depth token text kind is deep =
    let same : depth_between (reverse before, here) (reverse after, there) ≡ depth = rw (length-reverse before, length-reverse after) (sym deep) in
    ap (option_map (λ k. (k, depth_between (reverse before, here) (reverse after, there), first, last, text))) is ∙ ap (λ d. Some (kind, d, first, last, text)) same

module _ {F : Type 0} (state : State) where
  checked_item : (next : State) (x : Texted) (l : List (Result Texted F)) → after_token state x.0.2 ≡ Some next → checked state (Ok x ∷ l) ≡ if_item (seen_between state next x) (checked next l)
  unfolding checked
  checked_item next x l is = rw is refl

  checked_none : (x : Texted) (l : List (Result Texted F)) → after_token state x.0.2 ≡ None → checked state (Ok x ∷ l) ≡ faulty state (Unexpected x.0.0)
  unfolding checked
  checked_none x l is = rw is refl

  checked_failure : (e : F) (l : List (Result Texted F)) → checked state (Err e ∷ l) ≡ faulty state (Source e)
  unfolding checked
  checked_failure e l = refl

  checked_end : (whole : Bool) → is_whole state ≡ whole → checked {F = F} state [] ≡ (if whole then [] else faulty state Ended)
  unfolding checked
  checked_end whole is = rw is refl

module _ {P E : Type 0} (m : Contract P Placed E) (s t : P) where
  -- ---- what draws of a token are

  module _ (x : Texted) (takes : TakesMade m texted rest_texted s (Ok (Some x)) t) (l : List (Result Placed E)) (i : Lists m.steps s l) where
    token_first : texted l ≡ Ok x ∷ texted (rest_texted l)
    token_first = first_item x (texted l) (takes.first l i) ∙ ap (λ k. Ok x ∷ k) (sym (lexed_others text_rules l))

    lists_others : Lists m.steps t (rest_texted l)
    lists_others = takes.rest l i (λ none. cc)

    pub checks_stood : (state next : State) (r : Result (Option (Option CheckedToken)) (CheckFault (LexFault E))) → StandsAs state x r next → ChecksOne m state l r t next
    checks_stood state next (Ok (Some (Some y))) h = (h.1, checked next (texted (rest_texted l)), h.2, ap (checked state) token_first ∙ checked_item state next x (texted (rest_texted l)) h.0 ∙ ap (λ o. if_item o (checked next (texted (rest_texted l)))) h.3, (rest_texted l, lists_others, refl))
    checks_stood state next (Ok (Some None)) h = (rest_texted l, lists_others, sym (ap (checked state) token_first ∙ checked_item state next x (texted (rest_texted l)) h.0 ∙ ap (λ o. if_item o (checked next (texted (rest_texted l)))) h.1))
    checks_stood state next (Ok None) h = absurd h
    checks_stood state next (Err (fault.Source e)) h = ap (checked state) token_first ∙ checked_none state x (texted (rest_texted l)) h.1 ∙ ap (λ w. Err (fault.Source w) ∷ []) (sym h.0)
    checks_stood state next (Err (fault.Memory a)) h = tt

  lowers_stood : (r : Result (Option (Option CheckedToken)) (CheckFault (LexFault E))) → Fewer m s t → LowersAtSome m s r t
  lowers_stood (Ok (Some x)) h = h
  lowers_stood (Ok None) h = tt
  lowers_stood (Err e) h = tt

  module _ (q : Result (Option Lexeme) (Fault (LexFault E))) (text : List ℕ) (takes : TakesText m s q text t) (state next : State) where
    -- what was drawn, by which answer it is
    as_answer : {k : Result (Option Lexeme) (Fault (LexFault E))} → q ≡ k → TakesText m s k text t
    as_answer is = subst (λ k. TakesText m s k text t) is takes

    stood_of : (x : Lexeme) (r : Result (Option (Option CheckedToken)) (CheckFault (LexFault E))) → TakesMade m texted rest_texted s (Ok (Some (x, text))) t → StandsAs state (x, text) r next → TakesChecked m s state r t next
    stood_of x r made h = record { keeps = made.keeps; lowers = lowers_stood r made.lowers.0; makes = λ l i. checks_stood (x, text) made l i state next r h }

    pub takes_stood : (x : Lexeme) (r : Result (Option (Option CheckedToken)) (CheckFault (LexFault E))) → q ≡ Ok (Some x) → StandsAs state (x, text) r next → TakesChecked m s state r t next
    takes_stood x r is h = stood_of x r (as_answer is) h

    end_of : TakesMade m texted rest_texted s (Ok None) t → is_whole state ≡ true → TakesChecked m s state (Ok None) t next
    end_of made whole = record { keeps = made.keeps; lowers = tt; makes = λ l i. ap (checked state) (first_none (texted l) (made.first l i)) ∙ checked_end state true whole }

    pub takes_end : q ≡ Ok None → is_whole state ≡ true → TakesChecked m s state (Ok None) t next
    takes_end is whole = end_of (as_answer is) whole

    no_end_of : TakesMade m texted rest_texted s (Ok None) t → is_whole state ≡ false → TakesChecked m s state (fault_in state Ended) t next
    no_end_of made whole = record { keeps = made.keeps; lowers = tt; makes = λ l i. ap (checked state) (first_none (texted l) (made.first l i)) ∙ checked_end state false whole }

    -- what is told is that
    as_told : {r k : Result (Option (Option CheckedToken)) (CheckFault (LexFault E))} → TakesChecked m s state k t next → r ≡ k → TakesChecked m s state r t next
    as_told h told = subst (λ z. TakesChecked m s state z t next) (sym told) h

    pub takes_no_end : {r : Result (Option (Option CheckedToken)) (CheckFault (LexFault E))} → q ≡ Ok None → is_whole state ≡ false → r ≡ fault_in state Ended → TakesChecked m s state r t next
    takes_no_end is whole told = as_told (no_end_of (as_answer is) whole) told

    failure_of : (e : LexFault E) → TakesMade m texted rest_texted s (Err e) t → TakesChecked m s state (fault_in state (Source e)) t next
    failure_of e made = record { keeps = made.keeps; lowers = tt; makes = λ l i. ap (checked state) (first_failure e (texted l) (made.first l i)) ∙ checked_failure state e (rest_first (texted l)) }

    pub takes_failure : (e : LexFault E) {r : Result (Option (Option CheckedToken)) (CheckFault (LexFault E))} → q ≡ Err (fault.Source e) → r ≡ fault_in state (Source e) → TakesChecked m s state r t next
    takes_failure e is told = as_told (failure_of e (as_answer is)) told

-- ---- several

module _ {P E : Type 0} (m : Contract P Placed E) where
  -- what the tokens of the whole are from a state on, those of the rest are from another
  abbrev pub GoesOn : P → State → P → State → Type 0
  GoesOn s0 state0 s state = (l : List (Result Placed E)) → Lists m.steps s0 l → ListsChecked m s (Some state) (checked state0 (texted l))

  fewer_after : {s t v : P} → KeptByDraws m s t → Fewer m t v → Fewer m s v
  fewer_after keeps fewer n b =
      let k = keeps.bound n b in
      let j = fewer k.0 k.1 in
      (j.0, j.1, omega (arith, k.2, j.2))

  -- ---- up to the first that is no separator

  module _ (s0 s t : P) (state0 state next : State) (here : GoesOn s0 state0 s state) (keeps : KeptByDraws m s0 s) {r : Result (Option (Option CheckedToken)) (CheckFault (LexFault E))} (takes : TakesChecked m s state r t next) where
    as_one : {k : Result (Option (Option CheckedToken)) (CheckFault (LexFault E))} → r ≡ k → TakesChecked m s state k t next
    as_one is = subst (λ k. TakesChecked m s state k t next) is takes

    pub fewer_of_some : {x : Option CheckedToken} → r ≡ Ok (Some x) → Fewer m s t
    fewer_of_some is = (as_one is).lowers

    past : TakesChecked m s state (Ok (Some None)) t next → GoesOn s0 state0 t next
    past one l i =
        let h = here l i in
        let k = one.makes h.0 h.1 in
        (k.0, k.1, k.2 ∙ h.2)

    pub goes_past : r ≡ Ok (Some None) → GoesOn s0 state0 t next
    goes_past is = past (as_one is)

    seen : {y : CheckedToken} → TakesChecked m s state (Ok (Some (Some y))) t next → (l : List (Result Placed E)) → Lists m.steps s0 l → IsFirstChecked m (checked state0 (texted l)) (Ok (Some y)) t (Some next)
    seen one l i =
        let h = here l i in
        let k = one.makes h.0 h.1 in
        (k.0, k.1, k.2, sym h.2 ∙ k.3, k.4)

    pub first_seen : {y : CheckedToken} → r ≡ Ok (Some (Some y)) → (l : List (Result Placed E)) → Lists m.steps s0 l → IsFirstChecked m (checked state0 (texted l)) (Ok (Some y)) t (Some next)
    first_seen is l i = seen (as_one is) l i

    ended : TakesChecked m s state (Ok None) t next → (l : List (Result Placed E)) → Lists m.steps s0 l → IsFirstChecked m (checked state0 (texted l)) (Ok None) t (Some next)
    ended one l i =
        let h = here l i in
        sym h.2 ∙ one.makes h.0 h.1

    pub first_end : r ≡ Ok None → (l : List (Result Placed E)) → Lists m.steps s0 l → IsFirstChecked m (checked state0 (texted l)) (Ok None) t (Some next)
    first_end is l i = ended (as_one is) l i

    faulted : (e : CheckFault (LexFault E)) → TakesChecked m s state (Err e) t next → (l : List (Result Placed E)) → Lists m.steps s0 l → IsFirstChecked m (checked state0 (texted l)) (Err e) t (Some next)
    faulted (fault.Source e) one l i =
        let h = here l i in
        sym h.2 ∙ one.makes h.0 h.1
    faulted (fault.Memory a) one l i = tt

    pub first_fault : (e : CheckFault (LexFault E)) → r ≡ Err e → (l : List (Result Placed E)) → Lists m.steps s0 l → IsFirstChecked m (checked state0 (texted l)) (Err e) t (Some next)
    first_fault e is l i = faulted e (as_one is) l i

    pub draws_item : {y : CheckedToken} → r ≡ Ok (Some (Some y)) → DrawsOn {B = CheckedToken} {F = CheckFault (LexFault E)} m s0 (Ok (Some y)) t
    draws_item is = record { keeps = kept_by_draws_transitive keeps takes.keeps; lowers = fewer_after keeps (fewer_of_some is) }

    pub draws_end : DrawsOn {B = CheckedToken} {F = CheckFault (LexFault E)} m s0 (Ok None) t
    draws_end = record { keeps = kept_by_draws_transitive keeps takes.keeps; lowers = tt }

    pub draws_fault : (e : CheckFault (LexFault E)) → DrawsOn {B = CheckedToken} {F = CheckFault (LexFault E)} m s0 (Err e) t
    draws_fault e = record { keeps = kept_by_draws_transitive keeps takes.keeps; lowers = tt }

  -- ---- one answer

  -- no item
  abbrev pub IsLast : Answered CheckedToken (CheckFault (LexFault E)) → Type 0
  IsLast (Ok (Some y)) = ⊥
  IsLast (Ok None) = ⊤
  IsLast (Err e) = ⊤

  pub step_over : (s : P) (o : Option State) → m.can_next s → o ≡ None → checked_step m (s, o) (Ok None) (s, o)
  step_over s o can is = (record { keeps = kept_by_draws_of_stays (stays_reflexive can); lowers = tt }, subst (λ (k : Option State). ChecksAnswer m (s, k) (Ok None) (s, o)) (sym is) (refl, is))

  module _ (s t : P) (o p : Option State) (state next : State) (is : o ≡ Some state) (r : Answered CheckedToken (CheckFault (LexFault E))) (draws : DrawsOn m s r t) (first : (l : List (Result Placed E)) → Lists m.steps s l → IsFirstChecked m (checked state (texted l)) r t (Some next)) where
    answers : ((l : List (Result Placed E)) → Lists m.steps s l → IsFirstChecked m (checked state (texted l)) r t p) → IsOverAfter r p → checked_step m (s, o) r (t, p)
    answers here over = (draws, subst (λ (k : Option State). ChecksAnswer m (s, k) r (t, p)) (sym is) (here, over))

    pub step_item : {y : CheckedToken} → r ≡ Ok (Some y) → p ≡ Some next → checked_step m (s, o) (Ok (Some y)) (t, p)
    step_item {y = y} same goes = subst (λ (k : Answered CheckedToken (CheckFault (LexFault E))). checked_step m (s, o) k (t, p)) same (answers (λ l i. subst (IsFirstChecked m (checked state (texted l)) r t) (sym goes) (first l i)) (subst (λ (k : Answered CheckedToken (CheckFault (LexFault E))). IsOverAfter k p) (sym same) tt))

    last_of : (a : Answered CheckedToken (CheckFault (LexFault E))) → IsLast a → (out : List (Result Seen (CheckFault (LexFault E)))) → IsFirstChecked m out a t (Some next) → IsFirstChecked m out a t p
    last_of (Ok (Some y)) last out h = absurd last
    last_of (Ok None) last out h = h
    last_of (Err (fault.Source e)) last out h = h
    last_of (Err (fault.Memory a)) last out h = h

    over_of : (a : Answered CheckedToken (CheckFault (LexFault E))) → IsLast a → p ≡ None → IsOverAfter a p
    over_of (Ok (Some y)) last none = absurd last
    over_of (Ok None) last none = none
    over_of (Err e) last none = none

    pub step_last : {k : Answered CheckedToken (CheckFault (LexFault E))} → r ≡ k → IsLast k → p ≡ None → checked_step m (s, o) k (t, p)
    step_last same last none =
        let is_last : IsLast r = subst IsLast (sym same) last in
        subst (λ (k : Answered CheckedToken (CheckFault (LexFault E))). checked_step m (s, o) k (t, p)) same (answers (λ l i. last_of r is_last (checked state (texted l)) (first l i)) (over_of r is_last none))

-- ---- all

module _ {S P E : Type 0} (view : S → P) (state : S → Option State) (m : Contract P Placed E) where
  abbrev steps : S → Answered CheckedToken (CheckFault (LexFault E)) → S → Type 0
  steps = (checked_contract view state m).steps

  abbrev Gives : S → List (Result Seen (CheckFault (LexFault E))) → Type 0
  Gives s out = GivesMade IsSeen steps IsMemory s out

  -- one draw of the list
  abbrev Takes : List (Result Seen (CheckFault (LexFault E))) → Answered CheckedToken (CheckFault (LexFault E)) → S → Type 0
  Takes [] r t = AtRefusal IsSeen steps IsMemory r t ⊎ (r ≡ end)
  Takes (y ∷ out) r t = AtRefusal IsSeen steps IsMemory r t ⊎ (IsMadeOf IsSeen y r × Gives t out)

  refused : (out : List (Result Seen (CheckFault (LexFault E)))) (a : AllocError) (t : S) → Takes out (Err (fault.Memory a)) t
  refused [] a t = inl (inl (fault.Memory a, refl, (a, refl)))
  refused (y ∷ out) a t = inl (inl (fault.Memory a, refl, (a, refl)))

  gives_by : (s : S) (out : List (Result Seen (CheckFault (LexFault E)))) → ((r : Answered CheckedToken (CheckFault (LexFault E))) (t : S) → steps s r t → Takes out r t) → Gives s out
  gives_by s [] h = h
  gives_by s (y ∷ out) h = h

  -- once it is over
  over : (o : Option State) (s : S) → state s ≡ o → o ≡ None → Gives s []
  over None s is none r t step = inr (subst (λ (k : Option State). ChecksAnswer m (view s, k) r (view t, state t)) is step.1).0
  over (Some x) s is none r t step = absurd cc

  -- what an answer is of what is listed: the first, or an end where nothing is
  abbrev FirstOf : List (Result Seen (CheckFault (LexFault E))) → Answered CheckedToken (CheckFault (LexFault E)) → S → Type 0
  FirstOf out r t = (IsFirstChecked m out r (view t) (state t) × IsOverAfter r (state t)) ⊎ ((out ≡ []) × (r ≡ end))

  first_of : (o : Option State) (s : S) (out : List (Result Seen (CheckFault (LexFault E)))) → state s ≡ o → ListsChecked m (view s) o out → (r : Answered CheckedToken (CheckFault (LexFault E))) (t : S) → steps s r t → FirstOf out r t
  first_of None s out is here r t step = inr (sym here.2, (subst (λ (k : Option State). ChecksAnswer m (view s, k) r (view t, state t)) is step.1).0)
  first_of (Some x) s out is here r t step =
      let a = subst (λ (k : Option State). ChecksAnswer m (view s, k) r (view t, state t)) is step.1 in
      inl (subst (λ (k : List (Result Seen (CheckFault (LexFault E)))). IsFirstChecked m k r (view t) (state t)) here.2 (a.0 here.0 here.1), a.1)

  takes_nil : (r : Answered CheckedToken (CheckFault (LexFault E))) (t : S) → FirstOf [] r t → Takes [] r t
  takes_nil r t (inr h) = inr h.1
  takes_nil (Ok (Some y)) t (inl h) = absurd (let e = h.0.3 in cc)
  takes_nil (Ok None) t (inl h) = inr refl
  takes_nil (Err (fault.Source e)) t (inl h) = absurd (let k = h.0 in cc)
  takes_nil (Err (fault.Memory a)) t (inl h) = refused [] a t

  takes_cons : (z : Result Seen (CheckFault (LexFault E))) (out : List (Result Seen (CheckFault (LexFault E)))) (r : Answered CheckedToken (CheckFault (LexFault E))) (t : S) → ((u : S) → ListsChecked m (view u) (state u) out → Gives u out) → FirstOf (z ∷ out) r t → Takes (z ∷ out) r t
  takes_cons z out r t others (inr h) = absurd (let e = h.0 in cc)
  takes_cons z out (Ok (Some y)) t others (inl h) =
      let same : z ∷ out ≡ Ok h.0.0 ∷ h.0.1 = h.0.3 in
      let here : Ok h.0.0 ≡ z = cc in
      let rest : h.0.1 ≡ out = cc in
      inr (subst (λ (k : Result Seen (CheckFault (LexFault E))). IsMadeOf IsSeen k (Ok (Some y))) here h.0.2, others t (subst (ListsChecked m (view t) (state t)) rest h.0.4))
  takes_cons z out (Ok None) t others (inl h) = absurd (let k = h.0 in cc)
  takes_cons z out (Err (fault.Source e)) t others (inl h) =
      let same : z ∷ out ≡ Err (fault.Source e) ∷ [] = h.0 in
      let here : Err (fault.Source e) ≡ z = cc in
      let rest : [] ≡ out = cc in
      inr (subst (λ (k : Result Seen (CheckFault (LexFault E))). IsMadeOf IsSeen k (Err (fault.Source e))) here refl, subst (λ (k : List (Result Seen (CheckFault (LexFault E)))). Gives t k) rest (over (state t) t refl h.1))
  takes_cons z out (Err (fault.Memory a)) t others (inl h) = refused (z ∷ out) a t

  gives : (out : List (Result Seen (CheckFault (LexFault E)))) (s : S) → ListsChecked m (view s) (state s) out → Gives s out
  gives [] s here = λ r t step. takes_nil r t (first_of (state s) s [] refl here r t step)
  gives (z ∷ out) s here = λ r t step. takes_cons z out r t (gives out) (first_of (state s) s (z ∷ out) refl here r t step)

  -- they list the checked tokens of what the source lists
  pub lists_checked : (s : S) (begun : State) → state s ≡ Some begun → (l : List (Result Placed E)) → Lists m.steps (view s) l → ListsMade IsSeen steps IsMemory s (checked begun (texted l))
  lists_checked s begun is l i = record { runs = gives (checked begun (texted l)) s (l, i, ap (λ (o : Option State). checked_by o (texted l)) is) }
