-- In a JSON text each token is as long as can be, and without blanks it has the same tokens.
use Rattle.std.specs.Prelude.{◌≡◌, ◌≢◌, ◌⊎◌, ◌≤◌, ℕ, zero, suc, ◌+◌, ◌-◌, nat_le, nat_lt, ◌&&◌, ⊤, true, Option, Some, None, option_and_then, List, [], ◌∷◌, ◌++◌, length, map, take}
use Rattle.std.proofs.Common.{arith, refl, ap, sym, subst, inl, inr, ◌∙◌, append_assoc, append-nil}
use Rattle.std.proofs.lemmas.Bool.Decides.{nat_tests}
use Rattle.std.proofs.lemmas.List.{length-append}
use Rattle.std.proofs.Math.Seq.{drop-append_seam, take-append_seam}
use Rattle.fallible_json.specs.Grammar.{State, after_token, after_tokens}
use Rattle.fallible_json.specs.Lexing.{Lexeme}
use Rattle.fallible_json.specs.Minifying.{bytes_of, bytes_of_all}
use Rattle.fallible_json.specs.Spelled.{IsLongest, SpellEach, tokens_with_bytes}
use Rattle.fallible_json.specs.Spelling.{IsBlank, IsSpelled, Times}
use Rattle.fallible_json.specs.Tokens.{after, token_of}
use Rattle.fallible_json.specs.Trees.{tokens_of}
use Rattle.fallible_json.specs.declared.grammar.Container.{Container}
use Rattle.fallible_json.specs.declared.grammar.Expects.{Expects}
use Rattle.fallible_json.specs.declared.grammar.Expects.TheVariants.{Value, ValueOrEnd, NameOrEnd, Name, Separator, AfterValue}
use Rattle.fallible_json.specs.declared.token.Phase.{Phase}
use Rattle.fallible_json.specs.declared.token.Phase.TheVariants.{Whole, Inside, Escape, FourDigits, ThreeDigits, TwoDigits, OneDigit, Minus, Zero, Integer, Point, Fraction, Exponent, Sign, Power, T, Tr, Tru, F, Fa, Fal, Fals, N, Nu, Nul}
use Rattle.fallible_json.specs.declared.token.Token.{Token}
use Rattle.fallible_json.specs.declared.token.Token.TheVariants.{BeginArray, EndArray, BeginObject, EndObject, NameSeparator, ValueSeparator, Text, Number, Literal}
use Rattle.fallible_json.specs.Reading.{read}
use Rattle.fallible_json.proofs.Lemmas.Parted.{ReadsToken, Stops, blank_is_one_byte, longest_of_stops, read_begun, reads_token}

-- ---- no number stands right after another

-- whether a token may stand right after another one with no blank between
abbrev MayFollow : Token → List Lexeme → Type 0
MayFollow Number ((first, last, Number) ∷ lexemes) = ⊥
MayFollow token lexemes = ⊤

after_number : (containers : List Container) (expects : Expects) (next : State) → after_token (containers, expects) Number ≡ Some next → next ≡ (containers, AfterValue)
after_number containers Value next is = cc
after_number containers ValueOrEnd next is = cc
after_number containers NameOrEnd next is = absurd cc
after_number containers Name next is = absurd cc
after_number containers Separator next is = absurd cc
after_number containers AfterValue next is = absurd cc

no_second_number : (state next last : State) → after_token state Number ≡ Some next → after_token next Number ≡ Some last → ⊥
no_second_number (containers, expects) next last is other =
    let same = after_number containers expects next is in
    let never : after_token (containers, AfterValue) Number ≡ Some last = subst (λ k. after_token k Number ≡ Some last) same other in
    cc

-- ---- what goes on with no number

-- a byte that goes on with no number that may end
abbrev EndsNumbers : ℕ → Type 0
EndsNumbers byte = (after Zero byte ≡ None) × (after Integer byte ≡ None) × (after Fraction byte ≡ None) × (after Power byte ≡ None)

stops_number : (phase : Phase) (token : Token) (byte : ℕ) → token_of phase ≡ Some token → EndsNumbers byte → after phase byte ≡ None
stops_number (Whole k) token byte is ends = refl
stops_number Inside token byte is ends = absurd cc
stops_number Escape token byte is ends = absurd cc
stops_number FourDigits token byte is ends = absurd cc
stops_number ThreeDigits token byte is ends = absurd cc
stops_number TwoDigits token byte is ends = absurd cc
stops_number OneDigit token byte is ends = absurd cc
stops_number Minus token byte is ends = absurd cc
stops_number Zero token byte is ends = ends.0
stops_number Integer token byte is ends = ends.1
stops_number Point token byte is ends = absurd cc
stops_number Fraction token byte is ends = ends.2
stops_number Exponent token byte is ends = absurd cc
stops_number Sign token byte is ends = absurd cc
stops_number Power token byte is ends = ends.3
stops_number T token byte is ends = absurd cc
stops_number Tr token byte is ends = absurd cc
stops_number Tru token byte is ends = absurd cc
stops_number F token byte is ends = absurd cc
stops_number Fa token byte is ends = absurd cc
stops_number Fal token byte is ends = absurd cc
stops_number Fals token byte is ends = absurd cc
stops_number N token byte is ends = absurd cc
stops_number Nu token byte is ends = absurd cc
stops_number Nul token byte is ends = absurd cc

blank_ends : (byte : ℕ) (text : List ℕ) → IsBlank text → text ≡ byte ∷ [] → EndsNumbers byte
blank_ends byte text (inl is) one = let same : byte ≡ 32 = cc in rw same (refl, refl, refl, refl)
blank_ends byte text (inr (inl is)) one = let same : byte ≡ 9 = cc in rw same (refl, refl, refl, refl)
blank_ends byte text (inr (inr (inl is))) one = let same : byte ≡ 10 = cc in rw same (refl, refl, refl, refl)
blank_ends byte text (inr (inr (inr is))) one = let same : byte ≡ 13 = cc in rw same (refl, refl, refl, refl)

literal_ends : (byte : ℕ) (more : List ℕ) → IsSpelled Literal (byte ∷ more) → EndsNumbers byte
literal_ends byte more (inl is) = let same : byte ≡ 116 = cc in rw same (refl, refl, refl, refl)
literal_ends byte more (inr (inl is)) = let same : byte ≡ 102 = cc in rw same (refl, refl, refl, refl)
literal_ends byte more (inr (inr is)) = let same : byte ≡ 110 = cc in rw same (refl, refl, refl, refl)

text_ends : (byte : ℕ) (more : List ℕ) → IsSpelled Text (byte ∷ more) → EndsNumbers byte
text_ends byte more (front, rest, is, quote, others) =
    let whole : byte ∷ more ≡ 34 ∷ rest = is ∙ ap (λ k. k ++ rest) quote in
    let same : byte ≡ 34 = cc in
    rw same (refl, refl, refl, refl)

-- the first byte of each token but a number
token_ends : (token : Token) (byte : ℕ) (more : List ℕ) → token ≢ Number → IsSpelled token (byte ∷ more) → EndsNumbers byte
token_ends BeginArray byte more other is = let same : byte ≡ 91 = cc in rw same (refl, refl, refl, refl)
token_ends EndArray byte more other is = let same : byte ≡ 93 = cc in rw same (refl, refl, refl, refl)
token_ends BeginObject byte more other is = let same : byte ≡ 123 = cc in rw same (refl, refl, refl, refl)
token_ends EndObject byte more other is = let same : byte ≡ 125 = cc in rw same (refl, refl, refl, refl)
token_ends NameSeparator byte more other is = let same : byte ≡ 58 = cc in rw same (refl, refl, refl, refl)
token_ends ValueSeparator byte more other is = let same : byte ≡ 44 = cc in rw same (refl, refl, refl, refl)
token_ends Text byte more other is = text_ends byte more is
token_ends Number byte more other is = absurd (other refl)
token_ends Literal byte more other is = literal_ends byte more is

-- ---- the first byte of what comes after a token

-- no byte of a number that may end goes on with the first of these
abbrev EndsBefore : List ℕ → Type 0
EndsBefore [] = ⊤
EndsBefore (byte ∷ rest) = EndsNumbers byte

ends_before_blanks : (n : ℕ) (bytes rest : List ℕ) → Times n IsBlank bytes → EndsBefore rest → EndsBefore (bytes ++ rest)
unfolding Times
ends_before_blanks zero bytes rest none ends = rw none ends
ends_before_blanks (suc n) bytes rest (front, others, is, one, more) ends =
    let k = blank_is_one_byte front one in
    let whole : bytes ≡ k.0 ∷ others = is ∙ ap (λ z. z ++ others) k.1 in
    subst (λ z. EndsBefore (z ++ rest)) (sym whole) (blank_ends k.0 front one k.1)

ends_before_token : (token : Token) (spelling rest : List ℕ) → token ≢ Number → ReadsToken token spelling → IsSpelled token spelling → EndsBefore (spelling ++ rest)
ends_before_token token spelling rest other reads is = subst (λ z. EndsBefore (z ++ rest)) (sym reads.is) (token_ends token reads.byte reads.more other (subst (λ z. IsSpelled token z) reads.is is))

abbrev pub Spells : ℕ → List ℕ → List Lexeme → Type 0
Spells place bytes lexemes = SpellEach (λ _ _. ⊤) place bytes lexemes

-- the first token, if there is one, is no number
abbrev NoNumberFirst : List Lexeme → Type 0
NoNumberFirst [] = ⊤
NoNumberFirst ((first, last, token) ∷ lexemes) = token ≢ Number

ends_before_spelled : (lexemes : List Lexeme) (place : ℕ) (bytes : List ℕ) → Spells place bytes lexemes → NoNumberFirst lexemes → EndsBefore bytes
unfolding SpellEach
ends_before_spelled [] place bytes (n, each) other = subst EndsBefore (append-nil bytes) (ends_before_blanks n bytes [] each tt)
ends_before_spelled ((first, last, token) ∷ lexemes) place bytes (blanks, spelling, rest, is, (n, each), at_first, is_spelled, at_last, any, others) other = subst EndsBefore (sym is) (ends_before_blanks n blanks (spelling ++ rest) each (ends_before_token token spelling rest other (reads_token token spelling is_spelled) is_spelled))

stops_before : (phase : Phase) (token : Token) (rest : List ℕ) → token_of phase ≡ Some token → EndsBefore rest → Stops phase rest
stops_before phase token [] is ends = tt
stops_before phase token (byte ∷ rest) is ends = stops_number phase token byte is ends

whole_stops : (phase : Phase) (token : Token) (rest : List ℕ) → token_of phase ≡ Some token → token ≢ Number → Stops phase rest
whole_stops (Whole k) token [] is other = tt
whole_stops (Whole k) token (byte ∷ rest) is other = refl
whole_stops Inside token rest is other = absurd cc
whole_stops Escape token rest is other = absurd cc
whole_stops FourDigits token rest is other = absurd cc
whole_stops ThreeDigits token rest is other = absurd cc
whole_stops TwoDigits token rest is other = absurd cc
whole_stops OneDigit token rest is other = absurd cc
whole_stops Minus token rest is other = absurd cc
whole_stops Zero token rest is other = let same : token ≡ Number = cc in absurd (other same)
whole_stops Integer token rest is other = let same : token ≡ Number = cc in absurd (other same)
whole_stops Point token rest is other = absurd cc
whole_stops Fraction token rest is other = let same : token ≡ Number = cc in absurd (other same)
whole_stops Exponent token rest is other = absurd cc
whole_stops Sign token rest is other = absurd cc
whole_stops Power token rest is other = let same : token ≡ Number = cc in absurd (other same)
whole_stops T token rest is other = absurd cc
whole_stops Tr token rest is other = absurd cc
whole_stops Tru token rest is other = absurd cc
whole_stops F token rest is other = absurd cc
whole_stops Fa token rest is other = absurd cc
whole_stops Fal token rest is other = absurd cc
whole_stops Fals token rest is other = absurd cc
whole_stops N token rest is other = absurd cc
whole_stops Nu token rest is other = absurd cc
whole_stops Nul token rest is other = absurd cc

number_or : (token : Token) → (token ≡ Number) ⊎ (token ≢ Number)
number_or BeginArray = inr (λ is. absurd cc)
number_or EndArray = inr (λ is. absurd cc)
number_or BeginObject = inr (λ is. absurd cc)
number_or EndObject = inr (λ is. absurd cc)
number_or NameSeparator = inr (λ is. absurd cc)
number_or ValueSeparator = inr (λ is. absurd cc)
number_or Text = inr (λ is. absurd cc)
number_or Number = inl refl
number_or Literal = inr (λ is. absurd cc)

-- ---- by the grammar

-- what the first token makes of a state, and the others of that
goes_first : (o : Option State) (state last : State) (token : Token) (tokens : List Token) → after_token state token ≡ o → option_and_then (λ next. after_tokens next tokens) o ≡ Some last → (next : State) × (after_token state token ≡ Some next) × (after_tokens next tokens ≡ Some last)
goes_first (Some next) state last token tokens is h = (next, is, h)
goes_first None state last token tokens is h = absurd cc

goes : (state last : State) (token : Token) (tokens : List Token) → after_tokens state (token ∷ tokens) ≡ Some last → (next : State) × (after_token state token ≡ Some next) × (after_tokens next tokens ≡ Some last)
unfolding after_tokens
goes state last token tokens h = goes_first (after_token state token) state last token tokens refl h

none_after_number : (lexemes : List Lexeme) (state next last : State) → after_token state Number ≡ Some next → after_tokens next (tokens_of lexemes) ≡ Some last → NoNumberFirst lexemes
none_after_number [] state next last is h = tt
none_after_number ((first, end, token) ∷ lexemes) state next last is h = λ same.
    let k = goes next last token (tokens_of lexemes) h in
    no_second_number state next k.0 is (subst (λ z. after_token next z ≡ Some k.0) same k.1)

stops_in_text : (phase : Phase) (token : Token) (lexemes : List Lexeme) (place : ℕ) (rest : List ℕ) (state next last : State) → token_of phase ≡ Some token → after_token state token ≡ Some next → after_tokens next (tokens_of lexemes) ≡ Some last → Spells place rest lexemes → (token ≡ Number) ⊎ (token ≢ Number) → Stops phase rest
stops_in_text phase token lexemes place rest state next last ends is h spells (inl same) = stops_before phase token rest ends (ends_before_spelled lexemes place rest spells (none_after_number lexemes state next last (subst (λ z. after_token state z ≡ Some next) same is) h))
stops_in_text phase token lexemes place rest state next last ends is h spells (inr other) = whole_stops phase token rest ends other

longest_of_reads : (token : Token) (spelling rest : List ℕ) (reads : ReadsToken token spelling) → Stops reads.next rest → IsLongest spelling rest
longest_of_reads token spelling rest reads stops = longest_of_stops spelling rest reads.next (ap (λ z. read None z) reads.is ∙ read_begun reads.byte reads.phase reads.next reads.more reads.begins reads.goes) stops

pub longest_of_text : (lexemes : List Lexeme) (place : ℕ) (bytes : List ℕ) (state last : State) → Spells place bytes lexemes → after_tokens state (tokens_of lexemes) ≡ Some last → SpellEach IsLongest place bytes lexemes
unfolding SpellEach
longest_of_text [] place bytes state last each h = each
longest_of_text ((first, end, token) ∷ lexemes) place bytes state last (blanks, spelling, rest, is, each, at_first, is_spelled, at_last, any, others) h =
    let k = goes state last token (tokens_of lexemes) h in
    let reads = reads_token token spelling is_spelled in
    let stops = stops_in_text reads.next token lexemes (end + 1) rest state k.0 last reads.ends k.1 k.2 others (number_or token) in
    (blanks, spelling, rest, is, each, at_first, is_spelled, at_last, longest_of_reads token spelling rest reads stops, longest_of_text lexemes (end + 1) rest k.0 last others k.2)

pub spells_of_longest : (lexemes : List Lexeme) (place : ℕ) (bytes : List ℕ) → SpellEach IsLongest place bytes lexemes → Spells place bytes lexemes
unfolding SpellEach
spells_of_longest [] place bytes each = each
spells_of_longest ((first, end, token) ∷ lexemes) place bytes (blanks, spelling, rest, is, each, at_first, is_spelled, at_last, longest, others) = (blanks, spelling, rest, is, each, at_first, is_spelled, at_last, tt, spells_of_longest lexemes (end + 1) rest others)

-- ---- the bytes of tokens

bytes_of_part : (front spelling rest : List ℕ) (first last : ℕ) → first ≡ length front → last + 1 ≡ first + length spelling → 1 ≤ length spelling → bytes_of (front ++ (spelling ++ rest)) first last ≡ spelling
bytes_of_part front spelling rest first last at_first at_last some =
    let long : length (front ++ (spelling ++ rest)) ≡ length front + (length spelling + length rest) = length-append front (spelling ++ rest) ∙ ap (λ z. length front + z) (length-append spelling rest) in
    let within : (nat_le first last && nat_lt last (length (front ++ (spelling ++ rest)))) ≡ true = grind (arith, nat_tests, long, at_first, at_last, some) in
    let many : last + 1 - first ≡ length spelling = omega (arith, at_first, at_last, some) in
    rw (within, many, at_first) (ap (take (length spelling)) (drop-append_seam front (spelling ++ rest)) ∙ take-append_seam spelling rest)

some_bytes : (token : Token) (spelling : List ℕ) → ReadsToken token spelling → 1 ≤ length spelling
some_bytes token spelling reads = rw reads.is (omega arith)

abbrev pub Parts : Type 0
Parts = List (Token × List ℕ)

-- each is spelled by its token's rule
abbrev pub EachSpelled : Parts → Type 0
EachSpelled [] = ⊤
EachSpelled ((token, text) ∷ parts) = IsSpelled token text × EachSpelled parts

-- their bytes, one after the other
abbrev pub joined : Parts → List ℕ
joined [] = []
joined ((token, text) ∷ parts) = text ++ joined parts

-- the tokens at their places, with no blank between
abbrev pub placed : ℕ → Parts → List Lexeme
placed place [] = []
placed place ((token, text) ∷ parts) = (place, place + length text - 1, token) ∷ placed (place + length text) parts

-- what a part of a text is, and where what comes after it begins
abbrev pub SplitsAt : List ℕ → List ℕ → List ℕ → List ℕ → List ℕ → Type 0
SplitsAt text before blanks spelling rest = (text ≡ (before ++ blanks) ++ (spelling ++ rest)) × (text ≡ ((before ++ blanks) ++ spelling) ++ rest)

pub splits_at : (before bytes blanks spelling rest : List ℕ) → bytes ≡ blanks ++ (spelling ++ rest) → SplitsAt (before ++ bytes) before blanks spelling rest
splits_at before bytes blanks spelling rest is =
    let one : before ++ bytes ≡ (before ++ blanks) ++ (spelling ++ rest) = ap (λ z. before ++ z) is ∙ sym (append_assoc before blanks (spelling ++ rest)) in
    (one, one ∙ sym (append_assoc (before ++ blanks) spelling rest))

pub bytes_of_token : (place first last : ℕ) (token : Token) (before bytes blanks spelling rest : List ℕ) → length before ≡ place → bytes ≡ blanks ++ (spelling ++ rest) → first ≡ place + length blanks → last + 1 ≡ first + length spelling → ReadsToken token spelling → bytes_of (before ++ bytes) first last ≡ spelling
bytes_of_token place first last token before bytes blanks spelling rest here is at_first at_last reads =
    let far : first ≡ length (before ++ blanks) = omega (arith, length-append before blanks, here, at_first) in
    ap (λ z. bytes_of z first last) (splits_at before bytes blanks spelling rest is).0 ∙ bytes_of_part (before ++ blanks) spelling rest first last far at_last (some_bytes token spelling reads)

pub next_place : (place first last : ℕ) (before blanks spelling : List ℕ) → length before ≡ place → first ≡ place + length blanks → last + 1 ≡ first + length spelling → length ((before ++ blanks) ++ spelling) ≡ last + 1
next_place place first last before blanks spelling here at_first at_last = omega (arith, length-append (before ++ blanks) spelling, length-append before blanks, here, at_first, at_last)

pub each_spelled : (lexemes : List Lexeme) (place : ℕ) (before bytes : List ℕ) → length before ≡ place → Spells place bytes lexemes → EachSpelled (tokens_with_bytes (before ++ bytes) lexemes)
unfolding SpellEach
each_spelled [] place before bytes here each = tt
each_spelled ((first, last, token) ∷ lexemes) place before bytes here (blanks, spelling, rest, is, each, at_first, is_spelled, at_last, any, others) = (
  subst (IsSpelled token) (sym (bytes_of_token place first last token before bytes blanks spelling rest here is at_first at_last (reads_token token spelling is_spelled))) is_spelled,
  subst (λ z. EachSpelled (tokens_with_bytes z lexemes)) (sym (splits_at before bytes blanks spelling rest is).1) (each_spelled lexemes (last + 1) ((before ++ blanks) ++ spelling) rest (next_place place first last before blanks spelling here at_first at_last) others),
)

pub joined_spelled : (text : List ℕ) (lexemes : List Lexeme) → joined (tokens_with_bytes text lexemes) ≡ bytes_of_all text lexemes
unfolding bytes_of_all
joined_spelled text [] = refl
joined_spelled text ((first, last, token) ∷ lexemes) = ap (λ z. bytes_of text first last ++ z) (joined_spelled text lexemes)

pub tokens_spelled : (text : List ℕ) (lexemes : List Lexeme) → map (λ p. p.0) (tokens_with_bytes text lexemes) ≡ tokens_of lexemes
tokens_spelled text [] = refl
tokens_spelled text ((first, last, token) ∷ lexemes) = ap (λ z. token ∷ z) (tokens_spelled text lexemes)

pub tokens_placed : (parts : Parts) (place : ℕ) → tokens_of (placed place parts) ≡ map (λ p. p.0) parts
tokens_placed [] place = refl
tokens_placed ((token, text) ∷ parts) place = ap (λ z. token ∷ z) (tokens_placed parts (place + length text))

placed_end : (place : ℕ) (text : List ℕ) → 1 ≤ length text → place + length text - 1 + 1 ≡ place + length text
placed_end place text some = omega (arith, some)

pub placed_spells : (parts : Parts) (place : ℕ) → EachSpelled parts → Spells place (joined parts) (placed place parts)
unfolding SpellEach Times
placed_spells [] place each = (0, refl)
placed_spells ((token, text) ∷ parts) place (is_spelled, each) =
    let end = placed_end place text (some_bytes token text (reads_token token text is_spelled)) in
    ([], text, joined parts, refl, (0, refl), omega arith, is_spelled, end, tt, subst (λ z. Spells z (joined parts) (placed (place + length text) parts)) (sym end) (placed_spells parts (place + length text) each))

spelled_first : (token : Token) (text : List ℕ) (place : ℕ) (before : List ℕ) (rest : List ℕ) → length before ≡ place → IsSpelled token text → bytes_of (before ++ (text ++ rest)) place (place + length text - 1) ≡ text
spelled_first token text place before rest here is_spelled =
    let some = some_bytes token text (reads_token token text is_spelled) in
    bytes_of_part before text rest place (place + length text - 1) (sym here) (placed_end place text some) some

pub spelled_placed : (parts : Parts) (place : ℕ) (before : List ℕ) → length before ≡ place → EachSpelled parts → tokens_with_bytes (before ++ joined parts) (placed place parts) ≡ parts
spelled_placed [] place before here each = refl
spelled_placed ((token, text) ∷ parts) place before here (is_spelled, each) =
    let others = spelled_placed parts (place + length text) (before ++ text) (omega (arith, length-append before text, here)) each in
    ap (λ z. (token, z) ∷ tokens_with_bytes (before ++ (text ++ joined parts)) (placed (place + length text) parts)) (spelled_first token text place before (joined parts) here is_spelled) ∙ ap (λ z. (token, text) ∷ z) (ap (λ z. tokens_with_bytes z (placed (place + length text) parts)) (sym (append_assoc before text (joined parts))) ∙ others)
