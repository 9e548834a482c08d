-- What is written of two trees is the same only if they are.
use Rattle.std.proofs.Common.{◌≡◌, List, [], ◌∷◌, ◌++◌, refl, sym, ap, ◌∙◌, append_assoc}
use Rattle.fallible_json.specs.Trees.{Tree, text, number, literal, array, object, Values, no_values, value, Members, no_members, member, written, written_values, further_values, written_members, further_members}
use Rattle.fallible_json.specs.declared.token.Token.{Token}
use Rattle.fallible_json.specs.declared.token.Token.TheVariants.{EndArray, EndObject}

-- no value begins with the end of an array
begins_with_no_end : (tree : Tree) (rest more : List Token) → ¬ (EndArray ∷ rest ≡ written tree ++ more)
unfolding written
begins_with_no_end text rest more same = absurd cc
begins_with_no_end number rest more same = absurd cc
begins_with_no_end literal rest more same = absurd cc
begins_with_no_end (array _) rest more same = absurd cc
begins_with_no_end (object _) rest more same = absurd cc

-- a list in two parts, of which the first is in two
regrouped : (a b c d e f : List Token) → (a ++ b) ++ c ≡ (d ++ e) ++ f → a ++ (b ++ c) ≡ d ++ (e ++ f)
regrouped a b c d e f same = sym (append_assoc a b c) ∙ same ∙ append_assoc d e f

mutual
  unfolding written

  same_tree : (a b : Tree) (rest more : List Token) → written a ++ rest ≡ written b ++ more → (a ≡ b) × (rest ≡ more)
  same_tree text text rest more same = (refl, cc)
  same_tree number number rest more same = (refl, cc)
  same_tree literal literal rest more same = (refl, cc)
  same_tree (array a) (array b) rest more same =
      let tail : (written_values a ++ EndArray ∷ []) ++ rest ≡ (written_values b ++ EndArray ∷ []) ++ more = cc in
      let k = same_values a b rest more (regrouped (written_values a) (EndArray ∷ []) rest (written_values b) (EndArray ∷ []) more tail) in
      (ap (λ v. array v) k.0, k.1)
  same_tree (object a) (object b) rest more same =
      let tail : (written_members a ++ EndObject ∷ []) ++ rest ≡ (written_members b ++ EndObject ∷ []) ++ more = cc in
      let k = same_members a b rest more (regrouped (written_members a) (EndObject ∷ []) rest (written_members b) (EndObject ∷ []) more tail) in
      (ap (λ m. object m) k.0, k.1)
  same_tree _ _ rest more same = absurd cc

  same_values : (a b : Values) (rest more : List Token) → written_values a ++ EndArray ∷ rest ≡ written_values b ++ EndArray ∷ more → (a ≡ b) × (rest ≡ more)
  same_values no_values no_values rest more same = (refl, cc)
  same_values no_values (value b ys) rest more same = absurd (begins_with_no_end b rest (further_values ys ++ EndArray ∷ more) (same ∙ append_assoc (written b) (further_values ys) (EndArray ∷ more)))
  same_values (value a xs) no_values rest more same = absurd (begins_with_no_end a more (further_values xs ++ EndArray ∷ rest) (sym same ∙ append_assoc (written a) (further_values xs) (EndArray ∷ rest)))
  same_values (value a xs) (value b ys) rest more same =
      let first = same_tree a b (further_values xs ++ EndArray ∷ rest) (further_values ys ++ EndArray ∷ more) (regrouped (written a) (further_values xs) (EndArray ∷ rest) (written b) (further_values ys) (EndArray ∷ more) same) in
      let others = same_further_values xs ys rest more first.1 in
      (ap (λ t. value t xs) first.0 ∙ ap (λ l. value b l) others.0, others.1)

  same_further_values : (a b : Values) (rest more : List Token) → further_values a ++ EndArray ∷ rest ≡ further_values b ++ EndArray ∷ more → (a ≡ b) × (rest ≡ more)
  same_further_values no_values no_values rest more same = (refl, cc)
  same_further_values no_values (value _ _) rest more same = absurd cc
  same_further_values (value _ _) no_values rest more same = absurd cc
  same_further_values (value a xs) (value b ys) rest more same =
      let tail : (written a ++ further_values xs) ++ EndArray ∷ rest ≡ (written b ++ further_values ys) ++ EndArray ∷ more = cc in
      let next = same_tree a b (further_values xs ++ EndArray ∷ rest) (further_values ys ++ EndArray ∷ more) (regrouped (written a) (further_values xs) (EndArray ∷ rest) (written b) (further_values ys) (EndArray ∷ more) tail) in
      let others = same_further_values xs ys rest more next.1 in
      (ap (λ t. value t xs) next.0 ∙ ap (λ l. value b l) others.0, others.1)

  same_members : (a b : Members) (rest more : List Token) → written_members a ++ EndObject ∷ rest ≡ written_members b ++ EndObject ∷ more → (a ≡ b) × (rest ≡ more)
  same_members no_members no_members rest more same = (refl, cc)
  same_members no_members (member _ _) rest more same = absurd cc
  same_members (member _ _) no_members rest more same = absurd cc
  same_members (member a xs) (member b ys) rest more same =
      let tail : (written a ++ further_members xs) ++ EndObject ∷ rest ≡ (written b ++ further_members ys) ++ EndObject ∷ more = cc in
      let first = same_tree a b (further_members xs ++ EndObject ∷ rest) (further_members ys ++ EndObject ∷ more) (regrouped (written a) (further_members xs) (EndObject ∷ rest) (written b) (further_members ys) (EndObject ∷ more) tail) in
      let others = same_further_members xs ys rest more first.1 in
      (ap (λ t. member t xs) first.0 ∙ ap (λ l. member b l) others.0, others.1)

  same_further_members : (a b : Members) (rest more : List Token) → further_members a ++ EndObject ∷ rest ≡ further_members b ++ EndObject ∷ more → (a ≡ b) × (rest ≡ more)
  same_further_members no_members no_members rest more same = (refl, cc)
  same_further_members no_members (member _ _) rest more same = absurd cc
  same_further_members (member _ _) no_members rest more same = absurd cc
  same_further_members (member a xs) (member b ys) rest more same =
      let tail : (written a ++ further_members xs) ++ EndObject ∷ rest ≡ (written b ++ further_members ys) ++ EndObject ∷ more = cc in
      let next = same_tree a b (further_members xs ++ EndObject ∷ rest) (further_members ys ++ EndObject ∷ more) (regrouped (written a) (further_members xs) (EndObject ∷ rest) (written b) (further_members ys) (EndObject ∷ more) tail) in
      let others = same_further_members xs ys rest more next.1 in
      (ap (λ t. member t xs) next.0 ∙ ap (λ l. member b l) others.0, others.1)

pub same_tree_of_written : (a b : Tree) → written a ≡ written b → a ≡ b
same_tree_of_written a b same = (same_tree a b [] [] (ap (λ l. l ++ []) same)).0
