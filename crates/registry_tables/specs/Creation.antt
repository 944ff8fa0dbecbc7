-- The texts that make the tables, in their order.
use Rattle.std.specs.Prelude.{ℕ, List, [], ◌∷◌, codes}

unfoldable pub creation : List (List ℕ)
creation =
    codes "CREATE TABLE users (name TEXT NOT NULL, PRIMARY KEY (name)) STRICT"
    ∷ codes "CREATE TABLE tokens (digest BLOB NOT NULL, user TEXT NOT NULL, PRIMARY KEY (digest), FOREIGN KEY (user) REFERENCES users) STRICT"
    ∷ codes "CREATE TABLE orgs (name TEXT NOT NULL, PRIMARY KEY (name)) STRICT"
    ∷ codes "CREATE TABLE members (org TEXT NOT NULL, user TEXT NOT NULL, role INTEGER NOT NULL, PRIMARY KEY (org, user), FOREIGN KEY (org) REFERENCES orgs, FOREIGN KEY (user) REFERENCES users) STRICT"
    ∷ codes "CREATE TABLE teams (org TEXT NOT NULL, team TEXT NOT NULL, PRIMARY KEY (org, team), FOREIGN KEY (org) REFERENCES orgs) STRICT"
    ∷ codes "CREATE TABLE team_members (org TEXT NOT NULL, team TEXT NOT NULL, user TEXT NOT NULL, PRIMARY KEY (org, team, user), FOREIGN KEY (org, team) REFERENCES teams ON DELETE CASCADE, FOREIGN KEY (org, user) REFERENCES members ON DELETE CASCADE) STRICT"
    ∷ codes "CREATE TABLE packages (name TEXT NOT NULL, status INTEGER NOT NULL, PRIMARY KEY (name)) STRICT"
    ∷ codes "CREATE TABLE grants (org TEXT NOT NULL, team TEXT NOT NULL, package TEXT NOT NULL, level INTEGER NOT NULL, PRIMARY KEY (org, team, package), FOREIGN KEY (org, team) REFERENCES teams ON DELETE CASCADE, FOREIGN KEY (package) REFERENCES packages) STRICT"
    ∷ codes "CREATE TABLE owners (package TEXT NOT NULL, user TEXT NOT NULL, PRIMARY KEY (package, user), FOREIGN KEY (package) REFERENCES packages, FOREIGN KEY (user) REFERENCES users) STRICT"
    ∷ codes "CREATE TABLE versions (package TEXT NOT NULL, version TEXT NOT NULL, published INTEGER NOT NULL, manifest TEXT NOT NULL, deprecated TEXT NOT NULL, archive BLOB NOT NULL, PRIMARY KEY (package, version), FOREIGN KEY (package) REFERENCES packages) STRICT"
    ∷ codes "CREATE TABLE spent (package TEXT NOT NULL, version TEXT NOT NULL, published INTEGER NOT NULL, withdrawn INTEGER NOT NULL, PRIMARY KEY (package, version), FOREIGN KEY (package) REFERENCES packages) STRICT"
    ∷ codes "CREATE TABLE tags (package TEXT NOT NULL, tag TEXT NOT NULL, version TEXT NOT NULL, PRIMARY KEY (package, tag), FOREIGN KEY (package, version) REFERENCES versions) STRICT"
    ∷ codes "CREATE TABLE needs (package TEXT NOT NULL, version TEXT NOT NULL, target TEXT NOT NULL, PRIMARY KEY (package, version, target), FOREIGN KEY (package, version) REFERENCES versions ON DELETE CASCADE) STRICT"
    ∷ codes "CREATE TABLE meta (name TEXT NOT NULL, value INTEGER NOT NULL, PRIMARY KEY (name)) STRICT"
    ∷ codes "CREATE TABLE held (package TEXT NOT NULL, version TEXT NOT NULL, archive INTEGER NOT NULL, PRIMARY KEY (package, version), FOREIGN KEY (package, version) REFERENCES versions ON DELETE CASCADE, FOREIGN KEY (archive) REFERENCES archives) STRICT"
    ∷ codes "CREATE TABLE archives (id INTEGER PRIMARY KEY AUTOINCREMENT, integrity TEXT NOT NULL, bytes BLOB NOT NULL) STRICT"
    ∷ codes "CREATE INDEX archives_by_integrity ON archives (integrity)"
    ∷ codes "CREATE TABLE need_ranges (package TEXT NOT NULL, version TEXT NOT NULL, target TEXT NOT NULL, range TEXT NOT NULL, PRIMARY KEY (package, version, target, range), FOREIGN KEY (package, version) REFERENCES versions ON DELETE CASCADE) STRICT"
    ∷ codes "CREATE INDEX need_ranges_by_target ON need_ranges (target, package, version, range)"
    ∷ codes "CREATE INDEX held_by_archive ON held (archive)"
    ∷ codes "CREATE INDEX tokens_by_user ON tokens (user, digest)"
    ∷ codes "CREATE INDEX members_by_user ON members (user, org)"
    ∷ codes "CREATE INDEX team_members_by_user ON team_members (org, user, team)"
    ∷ codes "CREATE INDEX owners_by_user ON owners (user, package)"
    ∷ []
