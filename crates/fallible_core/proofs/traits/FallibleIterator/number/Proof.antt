-- `number` makes a number of no bytes, whose ghost field is the bound that the law gives, since there is one.
use Rattle.std.proofs.Common.{[], ◌∷◌, refl}
use Rattle.std.proofs.raw_atomic.Walks.{proved}
use mir.MapTy.{inst_fn}
use mir.Syntax.{Args, a_type, dcons, dnil, named}
use contract.Monad.{fact}
use types.Kit.{‵, raw, ◌⊛◌, ◌$◌, ◌∵◌, !, qed, move, drop, split, join, use0, suffices, done}
use types.Run.{no_more, and_then, returns, enter}
use types.Part.{agg}
use types.ByLocal.{alloc_all, pass_all, free_all, look_at, get, sets}
use denote.Builtin.{RefOf}
use denote.Exit.{yes}
use denote.Param.{bounded}
use denote.RattleType.{RattleType, owns}
use denote.Ref.{shr_vals, shr_Tells}
use denote.Signature.{plain, types_at}
use denote.Steps.{nothing, heard}
use denote.Triple.Clauses.{Ended}
use denote.Triple.Entry.{alive}
use denote.Triple.Walked.{Stays, says, stay_dropped, Goes-dropped, walk_of, ends_at}
use Rattle.fallible_core.specs.contracts.number.Number.{the_row as N}
use Rattle.fallible_core.specs.contracts.traits.FallibleIterator.number as f
use Rattle.fallible_core.proofs.traits.FallibleIterator.number.Statement.{statement}
use Rattle.fallible_core.proofs.traits.FallibleIterator.number.Code as code
use Rattle.fallible_core.proofs.Walks.{word, number, number_made}

pub number_spec : {M : Type 1} → statement M
number_spec 𝓤 𝓛 𝓜 𝓡 wired S I E _ _ _ g d d' m _ =
    let Ys : Args = bounded (a_type ∷ a_type ∷ a_type ∷ []) (S, (I, (E, tt))) (dcons d (dcons d' dnil)) in
    let T : Ended = f.ended S I E g d d' in let c = f.clauses S I E g d d' 𝓛 𝓜.mem 𝓡.returns in let R : RattleType = f.Self-row S I E in
    let stayed : Stays T.signature.params T.kept = (stay_dropped (RefOf (0 ∷ []) tt (plain (λ _. R)) (λ _. tt)) yes, tt) in
    proved 𝓛 T stayed c 𝓜 𝓡 (Goes-dropped 𝓛 4 (RefOf (0 ∷ []) tt (plain (λ _. R)) (λ _. tt)) yes (λ κs x w. refl), tt)
    (f.Key.name Ys) (inst_fn Ys code.function) (code.unfolded 𝓤 𝓛.H 𝓜 𝓡 wired (S, (I, (E, tt))) d d')
    (λ κs. (shr_vals, tt)) (λ κs. (shr_Tells (named 0) κs.0 R, tt)) (λ κs qs bounds a _ are.
    let y : (walk_of 𝓛 T stayed c).Ghost = ((κs, qs, bounds, a, (shr_vals a.0, tt)), tt) in
    qed 𝓛 ((raw (alive 𝓛 T.signature κs qs) ⊛ ‵ (owns (types_at T.signature.params κs) a y.0.4)) ∷ (raw (fact 𝓤 _) ⊛ raw (fact 𝓤 _) ⊛ raw (fact 𝓤 _) ⊛ raw (fact 𝓤 _)) ∷ []) ∵
    move ! (1 ∷ []) $ split ! $ drop ! $ split ! $ drop ! $ split ! $ drop ! $ heard ! _ (λ ends. let bound = (m.lawful.bounded _).0 ends in
    split ! $ move ! (1 ∷ []) $ drop ! $ enter ! _ _ _ _ _ $ alloc_all ! (λ l. pass_all ! refl ((tt, tt), tt) $
    sets ! (agg ! (no_more !)) refl (tt, tt) $ sets ! (agg ! (and_then ! (get ! refl) (no_more !))) refl (tt, (tt, tt)) $
    returns ! (look_at ! 0 refl) $ free_all ! refl $ use0 𝓛 (‵ (N.own_val (number bound.0) (word ∷ []))) (number_made 𝓛 bound.0) $
    suffices ! _ (ends_at 𝓛 T stayed c y word (number bound.0) (tt, tt) (tt, tt)) $ says ! bound.1 $
    nothing ! $ nothing ! $ join ! $ join ! $ move ! (1 ∷ 0 ∷ []) $ join ! $ done !)))
