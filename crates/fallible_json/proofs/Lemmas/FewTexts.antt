-- Bytes have at most one text more than they are.
use Rattle.std.proofs.Common.{Bool, true, false, ◌≡◌, ℕ, suc, ◌+◌, ◌≤◌, List, [], ◌∷◌, ◌++◌, length, Option, Some, None, Result, Ok, Err, if◌then◌else◌, not, arith}
use Rattle.std.specs.Prelude.{filter}
use Rattle.std.specs.Option.{option_map_or}
use Rattle.std.specs.declared.convert.Infallible.{Infallible}
use Rattle.fallible_iterator.specs.Lists.{items, numbered}
use Rattle.fallible_itertools.specs.Lexing.{lexed_by, lexed_from}
use Rattle.fallible_json.specs.Bytes.{is_open}
use Rattle.fallible_json.specs.Grammar.{State, after_token, begin, is_whole}
use Rattle.fallible_json.specs.Lexing.{Begun, Lexeme, Placed, begun_at, begun_with, closed, lexed, token_rules}
use Rattle.fallible_json.specs.Minifying.{bytes_of}
use Rattle.fallible_json.specs.Taking.{◌before◌}
use Rattle.fallible_json.specs.Texts.{Ending, complete, cut, TextResult, Tokens, at_ending, ends_text, faulty, is_begin, texts_after, texts_from, tokens_by, where_ends, where_stands}
use Rattle.fallible_json.specs.Tokens.{is_blank}
use Rattle.fallible_json.specs.Wanted.{wanted_of}
use Rattle.fallible_json.specs.declared.lexer.LexFault.{LexFault}
use Rattle.fallible_json.specs.declared.lexer.LexFault.TheVariants.{Unknown}

few_either : {A : Type 0} (c : Bool) (a b : List A) (n : ℕ) → length a ≤ n → length b ≤ n → length (if c then a else b) ≤ n
few_either true a b n p q = p
few_either false a b n p q = q

abbrev Lexed : Type 0
Lexed = List (Result Lexeme (LexFault Infallible))

few_goes : (o : Option Begun) (stops : Lexed) (goes : Begun → Lexed) (n : ℕ) → length stops ≤ n → ((s : Begun) → length (goes s) ≤ n) → length (option_map_or goes o stops) ≤ n
few_goes None stops goes n p q = p
few_goes (Some s) stops goes n p q = q s

few_from : (x : Placed) (n : ℕ) (tail : Option Begun → Lexed) → length (tail None) ≤ n → ((s : Begun) → length (tail (Some s)) ≤ n + 1) → length (lexed_from token_rules x tail) ≤ n + 1
few_from x n tail p q =
    let none = Err (Unknown x.0) ∷ tail None in
    let goes = λ (s : Begun). tail (Some s) in
    few_either (is_blank x.1) (tail None) (option_map_or goes (begun_at x) none) (n + 1) (omega (arith, p)) (few_goes (begun_at x) none goes (n + 1) (omega (arith, p)) q)

-- placed bytes have at most as many tokens, and one more where one is begun
few_lexed : (l : List (Result Placed Infallible)) → (length (lexed_by token_rules None l) ≤ length l) × ((s : Begun) → length (lexed_by token_rules (Some s) l) ≤ length l + 1)
unfolding lexed_by
few_lexed [] = (omega arith, λ s. omega arith)
few_lexed (Err e ∷ l) = let h = few_lexed l in let k = h.0 in (omega (arith, k), λ s. omega (arith, k))
few_lexed (Ok x ∷ l) =
    let h = few_lexed l in
    let tail = λ (b : Option Begun). lexed_by (token_rules {E = Infallible}) b l in
    let here = few_from x (length l) tail h.0 h.1 in (
      omega (arith, here),
      λ s. few_goes (begun_with s x) (closed {E = Infallible} s.0 s.1 s.2 ∷ lexed_from token_rules x tail) (λ t. tail (Some t)) (suc (length l) + 1) (omega (arith, here)) (λ t. let k = h.1 t in omega (arith, k)),
    )

length_placed : (place : ℕ) (text : List ℕ) → length (numbered {E = Infallible} place (items text)) ≡ length text
unfolding numbered items
length_placed place [] = omega arith
length_placed place (byte ∷ text) = let h = length_placed (place + 1) text in omega (arith, h)

few_kept : (text : List ℕ) (l : Tokens) → length (filter (λ x. not (is_open text x)) l) ≤ length l
few_kept text [] = omega arith
few_kept text (x ∷ l) =
    let h = few_kept text l in
    let kept = filter (λ y. not (is_open text y)) l in
    few_either (not (is_open text x)) (x ∷ kept) kept (suc (length l)) (omega (arith, h)) (omega (arith, h))

few_by : (ending : Ending) (text : List ℕ) (l : Tokens) → length (tokens_by ending text l) ≤ length l
few_by complete text l = omega arith
few_by cut text l = few_kept text l

few_stands : (o : Option State) (misplaced : List TextResult) (tail : State → List TextResult) (n : ℕ) → length misplaced ≤ n → ((s : State) → length (tail s) ≤ n) → length (where_stands o misplaced tail) ≤ n
few_stands None misplaced tail n p q = p
few_stands (Some s) misplaced tail n p q = q s

few_ends : (c : Bool) (b : State × List ℕ) (tail : State × List ℕ → List TextResult) (n : ℕ) → ((b : State × List ℕ) → length (tail b) ≤ n) → length (where_ends c b tail) ≤ n + 1
few_ends true b tail n q = let h = q (begin, []) in omega (arith, h)
few_ends false b tail n q = let h = q b in omega (arith, h)

module _ (origin : ℕ × ℕ) (text : List ℕ) where
  few_ending : (ending : Ending) (b : State × List ℕ) → length (at_ending origin text ending b) ≤ 1
  few_ending complete b = few_either (is_begin b.0) [] (if is_whole b.0 then Ok b.1 ∷ [] else faulty origin text b (length text) (wanted_of b.0)) 1 (omega arith) (few_either (is_whole b.0) (Ok b.1 ∷ []) (faulty origin text b (length text) (wanted_of b.0)) 1 (omega arith) (omega arith))
  few_ending cut b = omega arith

  few_texts : (ending : Ending) (b : State × List ℕ) (l : Tokens) → length (texts_from origin text ending b l) ≤ length l + 1
  unfolding texts_from
  few_texts ending b [] = few_ending ending b
  few_texts ending b (Err e ∷ l) = omega arith
  few_texts ending b (Ok x ∷ l) =
      few_stands (after_token b.0 x.2) (faulty origin text b x.0 (wanted_of b.0)) (λ next. where_ends (ends_text text next (x.1, x.2)) (next, b.1 ++ bytes_of text x.0 x.1) (λ c. texts_from origin text ending c l)) (suc (length l) + 1) (omega arith)
      (λ next. few_ends (ends_text text next (x.1, x.2)) (next, b.1 ++ bytes_of text x.0 x.1) (λ c. texts_from origin text ending c l) (suc (length l)) (λ c. let h = few_texts ending c l in omega (arith, h)))

  pub few_texts_after : (ending : Ending) (b : State × List ℕ) → length (texts_after ending origin b text) ≤ length text + 1
  few_texts_after ending b =
      let l = lexed {E = Infallible} (numbered 0 (items text)) in
      let tokens = few_lexed (numbered 0 (items text)) in
      let some = tokens.0 in
      let texts = few_texts ending b (tokens_by ending text l) in
      let kept = few_by ending text l in
      let long = length_placed 0 text in
      omega (arith, some, texts, kept, long)

length_before : (texts : List (List ℕ)) (others : List TextResult) → length (texts before others) ≡ length texts + length others
length_before [] others = omega arith
length_before (x ∷ texts) others = let h = length_before texts others in omega (arith, h)

-- texts that bytes have
pub few_before : (origin : ℕ × ℕ) (text : List ℕ) (ending : Ending) (b : State × List ℕ) (texts : List (List ℕ)) (others : List TextResult) → texts_after ending origin b text ≡ texts before others → length texts ≤ length text + 1
few_before origin text ending b texts others is =
    let few = few_texts_after origin text ending b in
    let long = length_before texts others in
    let same : length (texts_after ending origin b text) ≡ length (texts before others) = λ i. length (is i) in
    omega (arith, few, long, same)
