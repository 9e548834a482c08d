-- What a fault of the tokens makes of the text, and what a tree does.
use Rattle.std.specs.Prelude.{◌≡◌, ℕ, List, Result, Ok, Err}
use Rattle.std.specs.Str.{IsUtf8}
use Rattle.std.specs.declared.convert.Infallible.{Infallible}
use Rattle.std.proofs.Common.{sym, ap, subst, ◌∙◌}
use Rattle.fallible_iterator.specs.Fault.{Fault}
use Rattle.fallible_iterator.specs.Fault.TheVariants.{Source}
use Rattle.fallible_iterator.specs.Lists.{items, numbered}
use Rattle.fallible_json.specs.Faults.{fault_at}
use Rattle.fallible_json.specs.Grammar.{begin}
use Rattle.fallible_json.specs.Json.{IsJson, fault_place, minified_text, told, wanted_at}
use Rattle.fallible_json.specs.Lexing.{Lexeme, lexed}
use Rattle.fallible_json.specs.Minifying.{ComesFrom, bytes_of_all, minified, minified_or_wanted, state_at, with_wanted}
use Rattle.fallible_json.specs.Trees.{Tree, tokens_of, written}
use Rattle.fallible_json.specs.Wanted.{wanted_of}
use Rattle.fallible_json.specs.declared.fault.JsonFault.{JsonFault}
use Rattle.fallible_json.specs.declared.lexer.LexFault.{LexFault}
use Rattle.fallible_json.specs.declared.minifying.Misplaced.{Misplaced}
use Rattle.fallible_json.specs.declared.wanted.Wanted.{Wanted}
use Rattle.fallible_json.proofs.Lemmas.Lexeme.{minified_of_tree, tree_of_minified}

pub told_faulty : {r : Fault (Misplaced (LexFault Infallible) × Wanted)} {place : ℕ} {wanted : Wanted} {fault : JsonFault} (text : List ℕ) (f : Misplaced (LexFault Infallible)) (tokens : Wanted) → r ≡ Source (f, tokens) → ComesFrom (minified_or_wanted text (lexed (numbered 0 (items text)))) (Err r) → wanted ≡ wanted_at f tokens → place ≡ fault_place text f → fault ≡ fault_at text place wanted → minified_text text ≡ Err fault
told_faulty {wanted = wanted} text f tokens same made wants is tells =
    let faulty : minified_or_wanted text (lexed (numbered 0 (items text))) ≡ Err (f, tokens) = subst (λ k. ComesFrom (minified_or_wanted text (lexed (numbered 0 (items text)))) (Err k)) same made in
    ap (told text) faulty ∙ sym (ap (λ z. Err z) (tells ∙ ap (λ z. fault_at text z wanted) is ∙ ap (fault_at text (fault_place text f)) wants))

-- the text of tokens that have no fault
untold : (text json : List ℕ) (wanted : Wanted) (r : Result (List ℕ) (Misplaced (LexFault Infallible))) → told text (with_wanted wanted r) ≡ Ok json → r ≡ Ok json
untold text json wanted (Ok out) is = cc
untold text json wanted (Err f) is = absurd cc

pub is_json_of_tree : (bytes : List ℕ) (tree : Tree) (xs : List Lexeme) → IsUtf8 bytes → lexed {E = Infallible} (numbered 0 (items bytes)) ≡ items xs → tokens_of xs ≡ written tree → IsJson bytes (bytes_of_all bytes xs)
is_json_of_tree bytes tree xs utf8 is same = (utf8, ap (λ l. told bytes (minified_or_wanted bytes l)) is ∙ ap (λ r. told bytes (with_wanted (wanted_of (state_at {E = LexFault Infallible} begin (items xs))) r)) (minified_of_tree {E = LexFault Infallible} bytes tree xs same))

pub tree_of_json : (bytes json : List ℕ) → IsJson bytes json → IsUtf8 bytes × (tree : Tree) × (xs : List Lexeme) × (lexed {E = Infallible} (numbered 0 (items bytes)) ≡ items xs) × (tokens_of xs ≡ written tree) × (json ≡ bytes_of_all bytes xs)
tree_of_json bytes json (utf8, is) =
    let k = tree_of_minified bytes json (lexed (numbered 0 (items bytes))) (untold bytes json (wanted_of (state_at begin (lexed (numbered 0 (items bytes))))) (minified bytes (lexed (numbered 0 (items bytes)))) is) in
    (utf8, k.0, k.1, k.2, k.3, k.4)
