-- What follows for a type that shows its list, reexported in a file of its own, since `using` names the file of a lemma.
pub use Rattle.fallible_contract.specs.Laws.Showing.{shown_before, lists_shown, lawful_listing, never_fails_shown}
