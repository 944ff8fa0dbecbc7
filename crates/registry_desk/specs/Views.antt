-- How packuments are shown, and what changes what is shown.
use Rattle.std.specs.Prelude.{Bool, List, Option, Some, None}
use Rattle.registry_names.specs.Texts.{Text}
use Rattle.registry_documents.specs.Fronts.{shown_text}
use Rattle.registry_packument.specs.declared.form.PackForm.{PackForm}
use Rattle.registry_packument.specs.declared.form.PackForm.TheVariants as form
use Rattle.registry_rules.specs.Changes.{Change}
use Rattle.registry_rules.specs.State.{State}
use Rattle.registry_rules.specs.declared.request.Action.{Action}
use Rattle.registry_rules.specs.declared.request.Action.TheVariants.{Packument, AbbreviatedPackument, RevisedPackument}
use Rattle.registry_laws_history.specs.Answers.{maintainer_names, packument_in, revised_packument}
use Rattle.registry_laws_history.specs.Apart.{is_about, is_read_in}
use Rattle.registry_desk.specs.declared.view.View.{View}
use Rattle.registry_desk.specs.declared.view.View.TheVariants.{Full, Abbreviated, Revised}

-- the query for the packument in this view
abbrev pub asks_packument : View → Text → Action
asks_packument Full name = Packument name
asks_packument Abbreviated name = AbbreviatedPackument name
asks_packument Revised name = RevisedPackument name

-- what is shown of a package
abbrev pub viewed : View → State → Text → Text
viewed Full S p = packument_in form.Full S p
viewed Abbreviated S p = packument_in form.Abbreviated S p
viewed Revised S p = revised_packument S p

-- whether the change makes another text of it
abbrev pub changes_view : View → Change → Text → Bool
changes_view Full = is_about
changes_view Abbreviated = is_about
changes_view Revised = is_read_in

-- ---- what it is made of

-- a packument of this form
abbrev pub form_of : View → PackForm
form_of Full = form.Full
form_of Abbreviated = form.Abbreviated
form_of Revised = form.Full

-- and these names in front of it, if it is as npm reads it
abbrev pub names_in_front : View → State → Text → Option (List Text)
names_in_front Full S p = None
names_in_front Abbreviated S p = None
names_in_front Revised S p = Some (maintainer_names S p)

-- the text of a packument with its front
abbrev pub text_behind : Option (List Text) → Text → Text
text_behind None text = text
text_behind (Some names) text = shown_text text names
