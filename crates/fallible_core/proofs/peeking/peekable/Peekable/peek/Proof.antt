-- `peek` fills, lends the held item and joins the two. Its answer holds a loan and a failure of any type, so the borrow checker doesn't cover it.
use Rattle.std.proofs.Common.{◌≡◌, ℕ, [], ◌∷◌, Ok, Err, MatchResult, option_copied, refl, sym, subst}
use Rattle.std.specs.Prelude.{⊤}
use Rattle.std.specs.Borrow.{follows_so}
use mathlib.Core.Option.{none}
use Rattle.std.proofs.raw_atomic.Walks.{proved}
use base.Fml.{GName, Share, ftrue, flft, fdead}
use base.Logic.{emp, id⊢, apply∗}
use base.Share
use mir.MapTy.{inst_fn}
use mir.Syntax.{Args, a_type, dcons, dnil, named}
use contract.BorrowLft.{⊑_trans, meet_⊑_right}
use contract.Monad.{fact, fact_i}
use contract.Running.{tables}
use types.Kit.{‵, raw, some, later, ◌⊛◌, ◌$◌, ◌∵◌, !, qed, move, drop, split, fsplit, group, join, use0, use1, use2, use3, pick, await, suffices, done}
use types.Run.{no_more, and_then, returns, enter, addr, of_opd, stop}
use types.ByLocal.{alloc_all, pass_all, free_all, look_at, get, sets, through, lands_as}
use denote.Builtin.{RefMutOf, unit}
use denote.Exit.{no}
use denote.Laws.{Is, shows}
use denote.Lend.{lends_again, comes_back, LentAgain}
use denote.Param.{bounded, param}
use denote.Param.Laws.{Laws, param_laws, of_field}
use denote.Param.Shared.{copy_shared}
use denote.Struct.Field.{unit-field, shr_ref_field}
use denote.Struct.Laws.{unit-laws, unit-copy, shr_ref_laws, shr_ref_copy}
use denote.RattleType.{RattleType}
use denote.Ref.{MutRef, mut_vals, mut_Tells}
use denote.Signature.{plain}
use denote.Steps.{nothing, heard, peeks}
use denote.Triple.Call.{calls_at}
use denote.Triple.Clauses.{Ended, Lasts, lasts}
use denote.Triple.Spec.{triple_of}
use denote.Triple.Table.{framed}
use denote.Triple.Walked.{Stays, stay_dropped, Goes-dropped, walk_of, ends_at}
use Rattle.std.specs.contracts.result.Result as result
use Rattle.std.specs.contracts.option.Option as option
use Rattle.std.proofs.option.Option.TheLaws as option_laws
use Rattle.std.proofs.result.Result.TheLaws as result_laws
use Rattle.fallible_contract.specs.Contract as draws
use Rattle.fallible_contract.specs.Clauses.{OverList}
use Rattle.fallible_contract.specs.Lists.{Lists, nth_of}
use Rattle.fallible_core.specs.Peeking.Peekable.{peekable_parts, peekable_held, peekable_contract, seen, held_item, held_of, failure_told, rest_look, Fills, Peeks}
use Rattle.fallible_core.proofs.Lemmas.Peeking.Peekable.{peeks_seen_after_fill}
use Rattle.fallible_core.specs.contracts.peeking.peekable.Peekable.{the_row}
use Rattle.fallible_core.specs.contracts.peeking.peekable.Peekable.peek as f
use Rattle.fallible_core.specs.contracts.peeking.peekable.Peekable.fill as f₁
use Rattle.fallible_core.specs.contracts.peeking.peekable.Peekable.lend as f₂
use Rattle.fallible_core.specs.contracts.peeking.peekable.Peekable.joined as f₃
use Rattle.fallible_core.proofs.peeking.peekable.Peekable.fill.Met as fill
use Rattle.fallible_core.proofs.peeking.peekable.Peekable.lend.Met as lend
use Rattle.fallible_core.proofs.peeking.peekable.Peekable.joined.Met as joined
use Rattle.fallible_core.proofs.Loans.{LifetimeEnds, begins, said_less}
use Rattle.fallible_core.proofs.peeking.peekable.Peekable.peek.Statement.{statement}
use Rattle.fallible_core.proofs.peeking.peekable.Peekable.peek.Code as code

pub peek_spec : {M : Type 1} → statement M
peek_spec 𝓤 𝓛 𝓜 𝓡 wired I X E L L' L'' g d d' d'' m m' m'' =
    let Ys : Args = bounded (a_type ∷ a_type ∷ a_type ∷ []) (I, (X, (E, tt))) (dcons d (dcons d' (dcons d'' dnil))) in
    let T : Ended = f.ended I X E g d d' d'' in
    let c = f.clauses I X E g d d' d'' 𝓛 𝓜.mem 𝓡.returns in
    let R : RattleType = the_row (param 0 I) (param 1 X) (param 2 E) in
    let stayed : Stays T.signature.params T.kept = (stay_dropped (RefMutOf (0 ∷ []) tt (plain (λ _. R)) (λ _. tt)) no, tt) in
    proved 𝓛 T stayed c 𝓜 𝓡 (Goes-dropped 𝓛 4 (RefMutOf (0 ∷ []) tt (plain (λ _. R)) (λ _. tt)) no (λ κs x w. refl), tt)
    (f.Key.name Ys) (inst_fn Ys code.function) (code.unfolded 𝓤 𝓛.H 𝓜 𝓡 wired (I, (X, (E, tt))) d d' d'')
    (λ κs. (mut_vals, tt)) (λ κs. (mut_Tells (named 0) κs.0 R, tt)) (λ κs qs bounds a _ are.
    let κ = κs.0 in let q = qs.0 in let r = a.0 in let b = r.ref_ptr.0 in let o = r.ref_ptr.1 in let vs = mut_vals r in
    let y : (walk_of 𝓛 T stayed c).Ghost = ((κs, qs, bounds, a, (vs, tt)), tt) in
    let tokens = ‵ (flft κs.1.0 qs.1.0) ⊛ ‵ (flft κs.1.1.0 qs.1.1.0) ⊛ ‵ (flft κs.1.1.1.0 qs.1.1.1.0) ⊛ ‵ ftrue in
    let T₁ : Ended = f₁.ended I X E g d d' d'' in
    let Filled : RattleType = result.the_row unit (param 2 E) in
    let filled_laws : Laws Filled = result_laws.the_row_laws unit (param 2 E) (of_field unit-field unit-laws refl (copy_shared unit-field unit-copy)) (param_laws 2 E L'') in
    let T₂ : Ended = f₂.ended I X E g d d' d'' in
    let T₃ : Ended = f₃.ended I X E g d d' d'' in
    let Loan = shr_ref_field (record { mir = named 0; lft = κ }) (param 1 X) tt in
    let loan_laws : Laws Loan.row = of_field Loan (shr_ref_laws (record { mir = named 0; lft = κ }) (param 1 X) tt) refl (copy_shared Loan (shr_ref_copy (record { mir = named 0; lft = κ }) (param 1 X) tt (param_laws 1 X L').shr_laws)) in
    let Held : RattleType = option.the_row Loan.row in
    let held_laws : Laws Held = option_laws.the_row_laws Loan.row loan_laws in
    let Answer : RattleType = result.the_row Held (param 2 E) in
    let answer_laws : Laws Answer = result_laws.the_row_laws Held (param 2 E) held_laws (param_laws 2 E L'') in
    let Tab = framed 𝓤 𝓛.H 𝓜 (tables 𝓤 𝓛.H 𝓜 𝓡 𝓡.env) in
    qed 𝓛 (((‵ (flft κ q) ⊛ tokens) ⊛ ‵ ((MutRef (named 0) κ R).own_val r vs) ⊛ ‵ ftrue) ∷ (raw (fact 𝓤 _) ⊛ raw (fact 𝓤 _) ⊛ raw (fact 𝓤 _) ⊛ raw (fact 𝓤 _)) ∷ []) ∵
    move ! (1 ∷ []) $ split ! $ heard ! _ (λ inI. split ! $ heard ! _ (λ inX. split ! $ heard ! _ (λ inE. heard ! _ (λ can.
    split ! $ split ! $ move ! (2 ∷ []) $ split ! $ move ! (1 ∷ []) $ drop ! $
    enter ! _ _ _ _ _ $ alloc_all ! (λ l. pass_all ! refl ((tt, tt), tt) $
    -- [the reference; κ's token; the other tokens]
    sets ! (addr ! (through ! refl (stop !))) refl (tt, tt) $
    move ! (1 ∷ []) $ use1 𝓛 (‵ (flft κ (Share.left q)) ⊛ ‵ (flft κ (Share.right q))) (𝓛.lfts.lft_split κ q) $ split ! $ move ! (1 ∷ []) $
    use1 𝓛 (later (some (λ (p : ℕ × Share). ‵ (flft (p.0 ∷ κ) p.1) ⊛ raw (LifetimeEnds 𝓛 κ (Share.right q) p.0 p.1)))) (begins 𝓛 κ (Share.right q)) $ await ! tt $ pick ! (λ p. split ! $
    let κ₁ = p.0 ∷ κ in
    -- [κ₁'s token; the way to end it; half of κ's token; the reference; the other tokens]
    move ! (3 ∷ 2 ∷ []) $
    use2 𝓛 (later (some (λ (δ : GName). ‵ ((MutRef (named 0) κ₁ R).own_val (record r { ghost_name = δ }) vs) ⊛ ‵ (LentAgain R κ κ₁ (Share.left q) r.ghost_name b o δ r.now)))) (lends_again 𝓛 R (named 0) κ κ₁ (Share.left q) r.ghost_name b o (named 0) r.now) $ await ! tt $ pick ! (λ δ. split ! $
    -- [the loan; what the lender keeps; κ₁'s token; the way to end it; the other tokens]
    let G₁ = triple_of 𝓛 (f₁.signature I X E) (f₁.spec I X E g d d' d'' 𝓛 𝓜.mem 𝓡.returns) in
    let z₁ : G₁.Ghost = (((κ₁, κs.1), (p.1, qs.1), (⊑_trans κ₁ κ κs.1.0 (meet_⊑_right (p.0 ∷ []) κ) bounds.0, tt), (record r { ghost_name = δ }, tt), (vs, tt)), tt) in
    nothing ! $ move ! (1 ∷ 0 ∷ []) $ join ! $ move ! (2 ∷ 4 ∷ []) $ join ! $ join ! $
    use0 𝓛 (raw (fact 𝓤 ((peekable_contract g.contract).can_next (peekable_parts r.now)))) (fact_i 𝓤 _ (emp 𝓤) can) $ use0 𝓛 (raw (fact 𝓤 _)) (fact_i 𝓤 _ (emp 𝓤) inE) $ join ! $
    use0 𝓛 (raw (fact 𝓤 _)) (fact_i 𝓤 _ (emp 𝓤) inX) $ join ! $ use0 𝓛 (raw (fact 𝓤 _)) (fact_i 𝓤 _ (emp 𝓤) inI) $ join ! $ move ! (1 ∷ 0 ∷ []) $
    use2 𝓛 (raw (G₁.pre z₁)) (id⊢ 𝓤 _) $
    calls_at ! Tab G₁ (fill.met 𝓤 𝓛 𝓜 𝓡 (code.calls-fallible_core::peeking::peekable::Peekable::fill 𝓡.env wired) I X E L L' L'' g d d' d'' m m' m'') z₁ (and_then ! (get ! refl) (no_more !)) (λ v.
    use1 𝓛 (later (some (λ (u : Filled.Denot). ((‵ (flft κ₁ p.1) ⊛ tokens) ⊛ ‵ (Filled.own_val u (v ∷ []))) ⊛ some (λ (ws : R.Denot × Unit {0}). ‵ (lasts T₁ z₁.0.0 z₁.0.3 ws)
    ⊛ raw (fact 𝓤 (Fills g.contract.steps (peekable_parts r.now) u (peekable_parts ws.0))) ⊛ raw (fact 𝓤 (draws.Stays (peekable_contract g.contract) (peekable_parts r.now) (peekable_parts ws.0))) ⊛ raw (fact 𝓤 (OverList (draws.parts_as peekable_parts (peekable_contract g.contract)).steps r.now (λ l. (u ≡ failure_told (nth_of 0 l)) × (peekable_held ws.0 ≡ held_of (nth_of 0 l)) × Lists (draws.parts_as peekable_parts (peekable_contract g.contract)).steps ws.0 (rest_look l)))))))) (id⊢ 𝓤 _) $
    await ! tt $ pick ! (λ u. split ! $ split ! $ split ! $ move ! (2 ∷ []) $ peeks ! Filled (Is Filled) (shows 𝓛 Filled) u (v ∷ []) (λ is₁.
    let good₁ = ((filled_laws.lawful 𝓛).typed u (v ∷ []) is₁).0 in
    lands_as ! refl refl good₁ $
    -- [what was told; κ₁'s token; the other tokens; the rest of the answer; what the lender keeps; the way to end κ₁]
    move ! (1 ∷ 5 ∷ []) $ use2 𝓛 (later (‵ (fdead κ₁) ⊛ ‵ (flft κ (Share.right q)))) (apply∗ 𝓤 (𝓛.A.lft κ₁ p.1) _) $ await ! tt $ split ! $
    move ! (4 ∷ []) $ pick ! (λ ws. split ! $ fsplit ! $ fsplit ! $ move ! (1 ∷ 2 ∷ []) $ drop ! $ drop ! $ move ! (1 ∷ []) $ split ! $ heard ! _ (λ fills. split ! $ heard ! _ (λ stays. drop ! $
    -- [the loan's last value; κ₁ is over; half of κ's token; what was told; the other tokens; what the lender keeps]
    move ! (1 ∷ 5 ∷ 0 ∷ []) $ use3 𝓛 (later (‵ ((MutRef (named 0) κ R).own_val (record r { now = ws.0 }) vs) ⊛ ‵ (flft κ (Share.left q)))) (comes_back 𝓛 R (named 0) κ κ₁ (Share.left q) r.ghost_name b o δ r.now ws.0) $ await ! tt $ split ! $
    move ! (1 ∷ 2 ∷ []) $ use2 𝓛 (‵ (flft κ q)) (𝓛.lfts.lft_join κ q) $
    -- [κ's token; the reference; what was told; the other tokens]
    sets ! (addr ! (through ! refl (stop !))) refl (tt, tt) $
    let G₂ = triple_of 𝓛 (f₂.signature I X E) (f₂.spec I X E g d d' d'' 𝓛 𝓜.mem 𝓡.returns) in
    let z₂ : G₂.Ghost = ((κs, qs, bounds, (record r { now = ws.0 }, tt), (vs, tt)), tt) in
    nothing ! $ move ! (2 ∷ 0 ∷ []) $ join ! $ move ! (1 ∷ 3 ∷ []) $ join ! $ join ! $
    nothing ! $ use0 𝓛 (raw (fact 𝓤 _)) (fact_i 𝓤 _ (emp 𝓤) inE) $ join ! $ use0 𝓛 (raw (fact 𝓤 _)) (fact_i 𝓤 _ (emp 𝓤) inX) $ join ! $ use0 𝓛 (raw (fact 𝓤 _)) (fact_i 𝓤 _ (emp 𝓤) inI) $ join ! $ move ! (1 ∷ 0 ∷ []) $
    use2 𝓛 (raw (G₂.pre z₂)) (id⊢ 𝓤 _) $
    calls_at ! Tab G₂ (lend.met 𝓤 𝓛 𝓜 𝓡 (code.calls-fallible_core::peeking::peekable::Peekable::lend 𝓡.env wired) I X E L L' L'' g d d' d'' m m' m'') z₂ (and_then ! (get ! refl) (no_more !)) (λ v₂.
    use1 𝓛 (later (some (λ (h : Held.Denot). ((‵ (flft κ q) ⊛ tokens) ⊛ ‵ (Held.own_val h (v₂ ∷ []))) ⊛ some (λ (ws₂ : Lasts T₂ κs z₂.0.3). ‵ (lasts T₂ κs z₂.0.3 ws₂)
    ⊛ raw (fact 𝓤 (option_copied h ≡ held_item ws.0.held)) ⊛ ‵ (follows_so R R r.ghost_name none (λ _ _. ⊤) (λ w. w ≡ ws.0)))))) (id⊢ 𝓤 _) $
    await ! tt $ pick ! (λ h. split ! $ split ! $ split ! $ move ! (2 ∷ []) $ peeks ! Held (Is Held) (shows 𝓛 Held) h (v₂ ∷ []) (λ is₂.
    let good₂ = ((held_laws.lawful 𝓛).typed h (v₂ ∷ []) is₂).0 in
    lands_as ! refl refl good₂ $
    -- [the item held; κ's token; the other tokens; the rest of the answer; what was told]
    move ! (3 ∷ []) $ pick ! (λ ws₂. split ! $ drop ! $ split ! $ heard ! _ (λ copied.
    sets ! (of_opd ! (get ! refl)) refl good₁ $ sets ! (of_opd ! (get ! refl)) refl good₂ $
    -- [what the reference ends as; the item held; κ's token; the other tokens; what was told]
    let G₃ = triple_of 𝓛 (f₃.signature I X E) (f₃.spec I X E g d d' d'' 𝓛 𝓜.mem 𝓡.returns) in
    let z₃ : G₃.Ghost = ((κs, qs, (bounds.1.0, tt), (u, (h, tt)), (v ∷ [], (v₂ ∷ [], tt))), tt) in
    nothing ! $ move ! (2 ∷ 0 ∷ []) $ join ! $ move ! (4 ∷ 0 ∷ []) $ join ! $ move ! (2 ∷ 3 ∷ []) $ join ! $ join ! $
    nothing ! $ use0 𝓛 (raw (fact 𝓤 _)) (fact_i 𝓤 _ (emp 𝓤) inE) $ join ! $ use0 𝓛 (raw (fact 𝓤 _)) (fact_i 𝓤 _ (emp 𝓤) inX) $ join ! $ use0 𝓛 (raw (fact 𝓤 _)) (fact_i 𝓤 _ (emp 𝓤) inI) $ join ! $ move ! (1 ∷ 0 ∷ []) $
    use2 𝓛 (raw (G₃.pre z₃)) (id⊢ 𝓤 _) $
    calls_at ! Tab G₃ (joined.met 𝓤 𝓛 𝓜 𝓡 (code.calls-fallible_core::peeking::peekable::Peekable::joined 𝓡.env wired) I X E L L' L'' g d d' d'' m m' m'') z₃ (and_then ! (get ! refl) (and_then ! (get ! refl) (no_more !))) (λ v₃.
    use1 𝓛 (later (some (λ (x : Answer.Denot). ((‵ (flft κ q) ⊛ tokens) ⊛ ‵ (Answer.own_val x (v₃ ∷ []))) ⊛ some (λ (ws₃ : Lasts T₃ κs z₃.0.3). ‵ (lasts T₃ κs z₃.0.3 ws₃)
    ⊛ raw (fact 𝓤 (MatchResult u (λ _. x ≡ Ok h) (λ e. x ≡ Err e))))))) (id⊢ 𝓤 _) $
    await ! tt $ pick ! (λ x. split ! $ split ! $ split ! $ move ! (2 ∷ []) $ peeks ! Answer (Is Answer) (shows 𝓛 Answer) x (v₃ ∷ []) (λ is₃.
    lands_as ! refl refl ((answer_laws.lawful 𝓛).typed x (v₃ ∷ []) is₃).0 $
    move ! (3 ∷ []) $ pick ! (λ ws₃. split ! $ drop ! $ heard ! _ (λ joins.
    let peeked = peeks_seen_after_fill g.contract.steps (peekable_parts r.now) (peekable_parts ws.0) u h x fills copied joins in
    -- [the answer; κ's token; the other tokens; what the reference ends as]
    move ! (3 ∷ []) $ use1 𝓛 (‵ (follows_so R R r.ghost_name none (λ _ _. ⊤) (λ w. Peeks g.contract.steps (peekable_parts r.now) (seen x) (peekable_parts w) × draws.Stays (peekable_contract g.contract) (peekable_parts r.now) (peekable_parts w))))
    (said_less 𝓛 R.Denot R.Denot R.coded.code R.coded.code r.ghost_name none (λ _ _. ⊤) (λ w. w ≡ ws.0) (λ w. Peeks g.contract.steps (peekable_parts r.now) (seen x) (peekable_parts w) × draws.Stays (peekable_contract g.contract) (peekable_parts r.now) (peekable_parts w))
    (λ w k. (
      subst (λ (z : R.Denot). Peeks g.contract.steps (peekable_parts r.now) (seen x) (peekable_parts z)) (sym k) peeked,
      subst (λ (z : R.Denot). draws.Stays (peekable_contract g.contract) (peekable_parts r.now) (peekable_parts z)) (sym k) stays,
    ))) $
    returns ! (look_at ! 0 refl) $ free_all ! refl $
    use0 𝓛 (raw (fact 𝓤 _)) (fact_i 𝓤 _ (emp 𝓤) (peekable_parts ws.0, peeked)) $ join ! $
    suffices ! _ (ends_at 𝓛 T stayed c y v₃ x (tt, tt) (tt, tt)) $
    move ! (1 ∷ []) $ nothing ! $ nothing ! $ join ! $ move ! (3 ∷ 4 ∷ []) $ join ! $ group ! 3 $ done !))))))))))))))))))))))))
