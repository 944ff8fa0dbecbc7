-- The words that the proofs here use: of the specifications, and of the crates below.
pub use Rattle.registry_access.specs.Positions.{has_organisation, level_in, position_in}
pub use Rattle.registry_access.specs.RowsFor.{RowsTell, StandingTells}
pub use Rattle.registry_access.specs.declared.caller.Caller.{Caller}
pub use Rattle.registry_cache.specs.Caches.{AreRight, Cache, asked, forgotten, kept, with_room, with_text}
pub use Rattle.registry_desk.specs.Adopted.{CanBeAdopted, IsAdopted, IsGivenBack, IsHandedBack, IsMade, IsSettled, IsUndone, LeavesCommitted, MakesInside, Settles, SurvivesAdoption}
pub use Rattle.registry_desk.specs.Caches.{AreAnswers, AreArchives, AreEmpty, AreLeftBy, ArePackuments, Changes, ChangesNone, ChangesRead, HasAnswers, HasLimits, IsCached, IsPut, IsSoundFor, KeepNoMore, KeepsArchive, KeepsLatest, KeepsNoMore, KeepsOutcome, KeepsReply, LeavesArchivesRight, LeavesCacheRight, LeavesTextsRight, Moves, MovesNone, ReadsNone, archive_key, limit_of, live_packument, moves, texts_of, without_packuments, without_touched}
pub use Rattle.registry_desk.specs.Early.{EarlyRefusalsStand, FoundTells, IsFound, TellsSome, asked_organisation, denial, early_refusal}
pub use Rattle.registry_desk.specs.Found.{AreRowsOf, AreTaken, AreTimesOf, NeedsFor}
pub use Rattle.registry_desk.specs.Opened.{GivesAs, GivesFound, HoldsEach, HoldsFound, IsFreshIfEmpty, IsLeftOf, IsMigrated, IsOurs, LeavesAs, LeavesFound, LeavesMigrated, schema_as}
pub use Rattle.registry_desk.specs.Promises.{Answered, Applied, HasHeadline, HasRun, HideAlong, HidesUnreadRun, HoldsReferences, IsLost, IsOpenOrLost, IsSure, Keeps, KeepsRun, LeavesOne, LeavesTheRest, LosesInTurn, NeedsForEach, RanTo, Served, Stepped, SurvivesInTurn, SurvivesOne, SurvivesRun, SurvivesTurns, Unchanged, WritesHistory}
pub use Rattle.registry_desk.specs.Resting.{HasTables, HoldsFirst, IsAsWritten, IsRegistryOf, MadeAlone, MadeInRow, Rests, Serves, end_stored, left_by, next_stored, settled_by, stepped, unless}
pub use Rattle.registry_desk.specs.Sending.{AnswersOne, BrokenBeginTheAnswer, IsAnyPackument, IsFrom, IsMadeOf, IsOrigin, IsShownBy, LeavesAll, MayAnswer, RestsOpen, Sends, SentAreAsked, ShowsAlone, WalksOver, answers_as_apply, front_names, head_in, versions_in}
pub use Rattle.registry_desk.specs.Views.{asks_packument, changes_view, form_of, names_in_front, text_behind, viewed}
pub use Rattle.registry_desk.specs.declared.cache.Caches.{Caches}
pub use Rattle.registry_desk.specs.declared.open.Base.{Base}
pub use Rattle.registry_desk.specs.declared.rows.Rows.{Rows}
pub use Rattle.registry_desk.specs.declared.view.View.{View}
pub use Rattle.registry_desk.specs.declared.view.View.TheVariants.{Abbreviated, Full, Revised}
pub use Rattle.registry_laws_hidden.specs.Without.{state_without}
pub use Rattle.registry_laws_history.proofs.RunFacts.{accepted, apply_says, headline_from, history_says, legal_grown, ran_none, ran_push, run_says}
pub use Rattle.registry_laws_history.specs.Answers.{answer, archive_in, dist_tag, head_of, listed_grant, member, members_in, packument_in, reply, reply_to, tags_in, team_packages_in, unless_refused, version_row, version_time}
pub use Rattle.registry_laws_history.specs.Apart.{are_about, is_about, is_read_in}
pub use Rattle.registry_laws_history.specs.Runs.{HaveOutcomes, IsAnswer, Outcome, Ran, accepts, end_of, entered, enters, grown, next}
pub use Rattle.registry_migration.specs.Older.{contents_of, schema_of}
pub use Rattle.registry_names.proofs.KeyFacts.{pair_key, same_self, text_key, triple_key}
pub use Rattle.registry_names.proofs.MapFacts.{at-erase, at-erase_other, at-keep, at-put_other, at-revise}
pub use Rattle.registry_names.proofs.PartFacts.{any-part, part-erase, part-put, same_part}
pub use Rattle.registry_names.specs.Keys.{Pair, pair_is}
pub use Rattle.registry_names.specs.Maps.{among, at, entries, keep, keys, of, pairs_of, parts, put, seen}
pub use Rattle.registry_names.specs.Names.{IsName, is_name_char, scope_of}
pub use Rattle.registry_names.specs.Tags.{latest}
pub use Rattle.registry_names.specs.Texts.{Text, is}
pub use Rattle.registry_names.specs.Versions.{VersionParts, text_of_version}
pub use Rattle.registry_names.specs.declared.dist_tag.DistTag.{DistTag}
pub use Rattle.registry_names.specs.declared.refusal.Refusal.{Refusal}
pub use Rattle.registry_names.specs.declared.refusal.Refusal.TheVariants.{Depended, NoCaller, NotFound, TooLate}
pub use Rattle.registry_names.specs.declared.stop.Fault.{Fault}
pub use Rattle.registry_packument.specs.Counted.{IsUnbroken, Takes}
pub use Rattle.registry_packument.specs.Packuments.{pack_len, pack_text}
pub use Rattle.registry_packument.specs.declared.packument.VersionRow.{VersionRow}
pub use Rattle.registry_rows.proofs.QuietFacts.{on_answer, reads_then, stays_then}
pub use Rattle.registry_rows.specs.Frames.{CommitFails, IsCommitted, Stays, Wrote}
pub use Rattle.registry_rows.specs.Ready.{IsReady, Leaves, Reads, Ready}
pub use Rattle.registry_rows.specs.Tables.{no_tables}
pub use Rattle.registry_rules.proofs.SoundSteps.{nothing_sound, step_sound}
pub use Rattle.registry_rules.specs.Actions.{is_command, version_of}
pub use Rattle.registry_rules.specs.Callers.{caller_of}
pub use Rattle.registry_rules.specs.Changes.{AddOrg, AddTeam, AddToken, AddUser, AddVersion, Change, DropGrant, DropMember, DropOwner, DropTag, DropTeam, DropTeamMember, DropToken, PutDeprecation, PutGrant, PutMember, PutOwner, PutStatus, PutTag, PutTeamMember, RetireVersion, all_made, change_of, made, release_of}
pub use Rattle.registry_rules.specs.Effects.{deprecation, effects, effects_for, effects_of, ending, first_right, freed, joining, maintaining, membership, put_status, right_to, step, withdrawal, withdrawal_of_all}
pub use Rattle.registry_rules.specs.Facts.{AboutTells, AreGrantFacts, AreMemberFacts, AreTeamMemberFacts, FactsTell, SayOf, since_of}
pub use Rattle.registry_rules.specs.Kept.{IsKept, IsSound}
pub use Rattle.registry_rules.specs.Refusals.{refusal, refusal_by, refusal_for, refuse, state_refusal, unless_allowed, unless_there, withdraw_all_refusal, withdraw_refusal}
pub use Rattle.registry_rules.specs.State.{Release, State, Withdrawal, asked_version, has_grant, has_live, has_maintainer, has_other_maintainer, has_other_owner, has_team, has_token, has_user, is_empty, is_in_team, is_live, is_member, is_published, is_spent, lives, stands, tokens_of}
pub use Rattle.registry_rules.specs.Withdrawals.{all_tags, is_any_depended, is_depended, is_need_of, is_too_old, last_withdrawal, live_since, live_versions, needs_in, others, published_at, selected, tags_of}
pub use Rattle.registry_rules.specs.declared.facts.About.{About}
pub use Rattle.registry_rules.specs.declared.facts.LiveVersion.{LiveVersion}
pub use Rattle.registry_rules.specs.declared.reply.Reply.{Reply}
pub use Rattle.registry_rules.specs.declared.reply.Reply.TheVariants.{Bytes, Count, Doc, Refused}
pub use Rattle.registry_rules.specs.declared.request.Action.{Action}
pub use Rattle.registry_rules.specs.declared.request.Action.TheVariants.{AbbreviatedPackument, Archive, Deprecate, MyPackages, OrgCreate, OrgPackages, OrgRemove, OrgSet, OwnerAdd, OwnerRemove, Packument, Publish, RevisedPackument, Revoke, SetAccess, TagRemove, TagSet, TeamAdd, TeamCreate, TeamDestroy, TeamPackages, TeamRemove, TokenAdd, TokenRemove, TokensRemove, UserAdd, Withdraw, WithdrawAll}
pub use Rattle.registry_rules.specs.declared.request.Request.{Request}
pub use Rattle.registry_tables.proofs.InsideFacts.{on_any}
pub use Rattle.registry_tables.proofs.HeldNeedFacts.{fresh_holds, others_hold, version_holds}
pub use Rattle.registry_tables.proofs.KeptArchiveFacts.{fresh_archives, others_keep_archives, version_keeps_archives}
pub use Rattle.registry_tables.proofs.LiveFacts.{fresh_is_nothing, lives_as_row}
pub use Rattle.registry_tables.proofs.ReferenceFacts.{held_stored}
pub use Rattle.registry_tables.proofs.StepFacts.{change_counts, change_keeps, changes_make}
pub use Rattle.registry_tables.specs.Archives.{HeldAreStored, HoldsArchives}
pub use Rattle.registry_tables.specs.Changes.{all_stored, stored_by, version_put}
pub use Rattle.registry_tables.specs.Contents.{Contents, access_of, contents, live_of, registry_of}
pub use Rattle.registry_tables.specs.Effects.{HasNoTables, InForm, registry_in, shown, stored, stored_in}
pub use Rattle.registry_tables.specs.Fresh.{CountsArchivesAlone, fresh}
pub use Rattle.registry_tables.specs.Needs.{HoldsNeeds}
pub use Rattle.registry_tables.specs.Ranges.{HasNumbersInRange}
pub use Rattle.registry_tables.specs.Schema.{schema}
pub use Rattle.registry_tables.specs.Spelled.{document, member_entry, published, row_entry, tag_entry}
pub use Rattle.registry_tables.specs.Teams.{AreTeamsSound, GrantsInScope, granted_entry}
pub use Rattle.registry_tables.specs.Walking.{lent, rows_left, seen_by}
pub use Rattle.registry_tables.specs.Walks.{IsLeftAlone, reference, shown_by}
pub use Rattle.sqlite.proofs.Callers.{memory_is_clean, survives_begin}
pub use Rattle.sqlite.proofs.StateLemmas.{survives_then, survives_weaker}
pub use Rattle.sqlite.specs.Effect.{Database, IsDatabase}
pub use Rattle.sqlite.specs.Files.{AreFoundIn, Finds, HoldsDatabase, file_state, image_of}
pub use Rattle.sqlite.specs.Held.{Held, state}
pub use Rattle.sqlite.specs.State.{Fails, HasCause, HasCleanDisk, IsLive, IsNoStatement, IsRolledBack, IsUnchanged, KeepsCommit, Opens, Shows, State as Shown, Survives, store_error}
pub use Rattle.sqlite.specs.declared.error.Error.{Error}
pub use Rattle.sqlite_trees.specs.Tree.{Trees}
pub use Rattle.sqlite_trees.specs.declared.store.Store.{Ghosts}
pub use Rattle.std.proofs.Common.{Bool, Err, IfErr, IfNone, IfOk, IfSome, IsOk, IsOkAnd, IsTrue, List, MatchBool, MatchResult, None, Ok, OnErr, OnOk, Option, Result, Some, [], ap, append-nil, append_assoc, ap₂, arith, codes, cond, false, filter, get_or, if◌then◌else◌, inl, inr, is_some, length, length-append, map, min, not, option_map, refl, rules, subst, subst₂, suc, sym, take, take_all, true, true≢false, unwrap_or, vec_capacity, zero, ℕ, ◌&&◌, ◌++◌, ◌+◌, ◌-◌, ◌<◌, ◌==◌, ◌^◌, ◌||◌, ◌∙◌, ◌∷◌, ◌≡◌, ◌≤◌, ◌⊎◌}
pub use Rattle.std.proofs.lemmas.List.{length-map, map-append, take_more}
pub use Rattle.std.proofs.lemmas.Result.{IfOk-weaker, err_from_is_err_and, on_ok_weaker}
pub use Rattle.std.specs.List.{AllByRecursion, AllZip, list_all, list_any}
pub use Rattle.std.specs.Option.{option_or, option_to_list}
