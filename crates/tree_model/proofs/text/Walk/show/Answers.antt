use Rattle.std.proofs.Common.{refl}
use Rattle.std.specs.String.{string_bytes}
use Rattle.tree_model.proofs.Walks.{link_shown, other_shown, file_shown, directory_shown, file_fewer, directory_fewer}
use Rattle.tree_model.proofs.text.Walk.show.Goals as goal

pub returns-in_ok-put_link-in-None-clause-text : goal.returns-in_ok-put_link-in-None-clause-text
returns-in_ok-put_link-in-None-clause-text c =
    link_shown c.args.self.now c.args.place (string_bytes c.args.out.now) (string_bytes c.put_link.new.out)
    (rw (← c.self.view_is, ← c.place.view_is) c.in-None.ensures.value)
    (rw (c.in_ok-put_link-in-None.ensures, c.as_str-path.ensures.value, ← c.place.view_is) refl)

pub returns-in_ok-put_other-in-Some-Other-clause-text : goal.returns-in_ok-put_other-in-Some-Other-clause-text
returns-in_ok-put_other-in-Some-Other-clause-text c =
    other_shown c.args.self.now c.args.place c.in-Some-Other.mode (string_bytes c.args.out.now) (string_bytes c.put_other.new.out)
    (rw (← c.self.view_is, ← c.place.view_is) (rw c.in-Some-Other.field-0-is at c.in-Some-Other.ensures.value))
    (rw (c.in_ok-put_other-in-Some-Other.ensures, c.as_str-path.ensures.value, ← c.place.view_is) refl)

pub returns-in_ok-meet_file-in-Some-File-clause-text : goal.returns-in_ok-meet_file-in-Some-File-clause-text
returns-in_ok-meet_file-in-Some-File-clause-text c =
    file_shown c.args.self.now c.meet_file.new.self c.args.place c.in-Some-File.file (string_bytes c.args.out.now) (string_bytes c.put_file.new.out)
    (rw (← c.self.view_is, ← c.place.view_is) (rw c.in-Some-File.field-0-is at c.in-Some-File.ensures.value))
    (rw (c.in_ok-put_file-in-Some-File.ensures, c.as_str-path.ensures.value, ← c.place.view_is) refl)
    c.in_ok-meet_file-in-Some-File.ensures

pub returns-in_ok-meet_file-in-Some-File-clause-fewer : goal.returns-in_ok-meet_file-in-Some-File-clause-fewer
returns-in_ok-meet_file-in-Some-File-clause-fewer c =
    file_fewer c.args.self.now c.meet_file.new.self c.args.place c.in-Some-File.file
    (rw (← c.self.view_is, ← c.place.view_is) (rw c.in-Some-File.field-0-is at c.in-Some-File.ensures.value))
    c.in_ok-meet_file-in-Some-File.ensures

pub returns-in_ok-push_names-in-Some-Directory-clause-text : goal.returns-in_ok-push_names-in-Some-Directory-clause-text
returns-in_ok-push_names-in-Some-Directory-clause-text c =
    directory_shown c.args.self.now _ c.args.place c.in-Some-Directory.directory (string_bytes c.args.out.now) (string_bytes c.put_directory.new.out)
    (rw (← c.self.view_is, ← c.place.view_is) (rw c.in-Some-Directory.field-0-is at c.in-Some-Directory.ensures.value))
    (rw (c.in_ok-put_directory-in-Some-Directory.ensures, c.as_str-path.ensures.value, ← c.place.view_is) refl)
    (rw (c.remove.ensures.entries, c.in_ok-push_names-in-Some-Directory.ensures, c.as_str-path.ensures.value, ← c.self.view_is, ← c.place.view_is) refl)

pub returns-in_ok-push_names-in-Some-Directory-clause-fewer : goal.returns-in_ok-push_names-in-Some-Directory-clause-fewer
returns-in_ok-push_names-in-Some-Directory-clause-fewer c =
    directory_fewer c.args.self.now _ c.args.place c.in-Some-Directory.directory
    (rw (← c.self.view_is, ← c.place.view_is) (rw c.in-Some-Directory.field-0-is at c.in-Some-Directory.ensures.value))
    (rw (c.remove.ensures.entries, c.in_ok-push_names-in-Some-Directory.ensures, c.as_str-path.ensures.value, ← c.self.view_is, ← c.place.view_is) refl)
