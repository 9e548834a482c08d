-- The list words: what a source lists, what an adapter makes of a list, and what a consumer makes of it. Each stands with its sentence in the room of its adapter, the rest in `Lists` of `fallible_contract`.
pub use Rattle.fallible_contract.specs.Lists.{result_answer, AlwaysGives, Lists, EndsForGood, GivesForGood, ListsForGood, Repeats, Acts, ActsWithState, RunsRead, RunsReadBack, on_value, one_more_than, picked_or, decided, before, to_side, MadeOf, MadeOfSides, CollectedBy, PartitionedBy, ActsWith, reduce_of, Converts, pick_of, key_of, unless_equal, stopped_or, rest_answer, rest_failed}
unfoldable pub use Rattle.fallible_contract.specs.Lists.{results, items, reversed, repeated, counted, nth_of, searched, all_of, any_of, find_mapped, found, position_in, each_done, collected, last_of, partitioned, CollectedAs, UnzippedAs, PartitionedAs, folded, reduced, best_by, greatest, least, best_by_key, compared, rest_first, rest_nth, rest_stop, rest_true, rest_false, rest_value, rest_fold}
unfoldable pub use Rattle.fallible_core.specs.OneToOne.Map.{mapped}
pub use Rattle.fallible_core.specs.OneToOne.Inspect.{once_seen}
unfoldable pub use Rattle.fallible_core.specs.OneToOne.Inspect.{inspected}
pub use Rattle.fallible_core.specs.OneToOne.Scan.{cons_or_end}
unfoldable pub use Rattle.fallible_core.specs.OneToOne.Scan.{scanned}
unfoldable pub use Rattle.fallible_core.specs.OneToOne.MapWhile.{mapped_while}
unfoldable pub use Rattle.fallible_core.specs.OneToOne.Enumerate.{numbered}
unfoldable pub use Rattle.fallible_contract.specs.Failing.{failures_mapped}
unfoldable pub use Rattle.fallible_core.specs.OneToOne.Cloned.{pointed_to}
pub use Rattle.fallible_core.specs.Filtering.Filter.{cons_if}
unfoldable pub use Rattle.fallible_core.specs.Filtering.Filter.{filtered}
pub use Rattle.fallible_core.specs.Filtering.FilterMap.{cons_some}
unfoldable pub use Rattle.fallible_core.specs.Filtering.FilterMap.{filter_mapped}
pub use Rattle.fallible_core.specs.Filtering.SkipWhile.{cons_from}
unfoldable pub use Rattle.fallible_core.specs.Filtering.SkipWhile.{skipped_while}
unfoldable pub use Rattle.fallible_core.specs.Cutting.Take.{taken}
pub use Rattle.fallible_core.specs.Cutting.TakeWhile.{cons_while}
unfoldable pub use Rattle.fallible_core.specs.Cutting.TakeWhile.{taken_while}
unfoldable pub use Rattle.fallible_core.specs.Cutting.Skip.{skipped}
unfoldable pub use Rattle.fallible_core.specs.Cutting.StepBy.{stepped}
unfoldable pub use Rattle.fallible_core.specs.Joining.Chain.{chained}
pub use Rattle.fallible_core.specs.Joining.Zip.{NoFailureAtEnd}
unfoldable pub use Rattle.fallible_core.specs.Joining.Zip.{zipped}
pub use Rattle.fallible_core.specs.Joining.Flatten.{EachLists}
unfoldable pub use Rattle.fallible_core.specs.Joining.Flatten.{flattened}
unfoldable pub use Rattle.fallible_core.specs.Peeking.Peekable.{rest_look, changed_first, look_of, first_if, rest_if}
unfoldable pub use Rattle.fallible_iterator.specs.Answering.{told, by_sides, answers_at_ends, rest_ends}
pub use Rattle.fallible_iterator.specs.Answering.{fronts, backs}
unfoldable pub use Rattle.fallible_iterator.specs.Cycled.{cycled_from, cycled}
unfoldable pub use Rattle.fallible_iterator.specs.Taking.{folded_if, rest_fold_if}
