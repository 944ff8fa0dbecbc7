use Rattle.registry_desk.proofs.Words.{◌∙◌, ap, ap₂, text_of_version, forgotten, archive_key, is_read_in, moves}
use Rattle.registry_desk.proofs.CacheFacts.{forgets_none, forgets_one}
use Rattle.registry_desk.proofs.KeptFacts.{packument_left, read_left}
use Rattle.registry_desk.proofs.cache.Caches.forget_changed.Goals as goal

pub returns-in_ok-key-in-Version-clause-ok : goal.returns-in_ok-key-in-Version-clause-ok
returns-in_ok-key-in-Version-clause-ok c change told =
    let is = rw c.in-Version.is at told in
    let key = c.as_str.ensures.value ∙ c.in_ok-key-in-Version.ensures ∙ ap₂ archive_key c.text.ensures.text c.text-in-Version.ensures.text in
    packument_left change c.args.self.now c.in-Version.name.now is.0 is.1 c.forget.new.self
    (c.forget.ensures ∙ ap (forgotten c.args.self.now.archives) key ∙ forgets_one moves c.args.self.now.archives change (archive_key c.in-Version.name.now (text_of_version c.in-Version.version.now)) is.2)
    c.forget_packuments.new.self c.forget_packuments.ensures

pub returns-in-Packument-clause-ok : goal.returns-in-Packument-clause-ok
returns-in-Packument-clause-ok c change told =
    let is = rw c.in-Packument.is at told in
    packument_left change c.args.self.now c.in-Packument.name.now is.0 is.1 c.args.self.now.archives (forgets_none moves c.args.self.now.archives change is.2) c.forget_packuments-in-Packument.new.self c.forget_packuments-in-Packument.ensures

pub returns-in-Maintainers-clause-ok : goal.returns-in-Maintainers-clause-ok
returns-in-Maintainers-clause-ok c change told =
    let is = rw c.in-Maintainers.is at told in
    read_left change c.args.self.now is.0 is.2 c.forget-in-Maintainers.new.self
    (c.forget-in-Maintainers.ensures ∙ ap (forgotten c.args.self.now.revised) c.text-in-Maintainers.ensures.text ∙ forgets_one is_read_in c.args.self.now.revised change c.in-Maintainers.name.now is.1)

pub returns-in-Nothing-clause-ok : goal.returns-in-Nothing-clause-ok
returns-in-Nothing-clause-ok c change told =
    let is = rw c.in-Nothing.is at told in
    read_left change c.args.self.now is.0 is.2 c.args.self.now.revised (forgets_none is_read_in c.args.self.now.revised change is.1)
