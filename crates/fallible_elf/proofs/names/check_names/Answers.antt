-- The names had room by the fold, or one of them had none.
use Rattle.std.specs.Prelude.{◌*◌, length, Ok}
use Rattle.std.proofs.Common.{rules, ap, ◌∙◌}
use Rattle.fallible_iterator.specs.Lists.{on_value}
use Rattle.fallible_elf.specs.Names.{room_after}
use Rattle.fallible_elf.specs.Sections.{headers_of}
use Rattle.fallible_elf.proofs.Lemmas.Name.{folded_is_names_within, told_of_names, fault_of_names}
use Rattle.fallible_elf.proofs.names.check_names.Goals as goal

pub returns-in-Ok : goal.returns-in-Ok
returns-in-Ok c = λ sections e. told_of_names c.fold-room.result _ (ap (λ r. on_value r (λ _. Ok tt)) (c.fold-room.ensures.value (room_after c.args.file.now) (headers_of c.args.file.now) (search rules) c.sections_of.ensures.lists) ∙ folded_is_names_within c.args.file.now (headers_of c.args.file.now) sections (4 * length c.args.file.now) e) c.in-Ok.field-0 c.in-Ok.is

pub returns-in-Err : goal.returns-in-Err
returns-in-Err c = λ sections e. fault_of_names c.fold-room.result _ (ap (λ r. on_value r (λ _. Ok tt)) (c.fold-room.ensures.value (room_after c.args.file.now) (headers_of c.args.file.now) (search rules) c.sections_of.ensures.lists) ∙ folded_is_names_within c.args.file.now (headers_of c.args.file.now) sections (4 * length c.args.file.now) e) c.in-Err.fault c.in-Err.is
