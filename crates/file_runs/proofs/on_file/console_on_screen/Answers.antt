use Rattle.file_runs.proofs.on_file.console_on_screen.Goals as goal

-- no call on the file in memory failed
pub returns-clause-why : goal.returns-clause-why
returns-clause-why g c =
    let ran = c.console_on_file-ended.ensures.why in
    let unfailed = c.close.ensures in
    record {
      usage = ran.usage;
      only = ran.only;
      read = ran.read;
      disk = λ calm. ran.disk (calm.0, unfailed);
      put = ran.put;
      complete = λ form is has calm_source calm none. ran.complete form is has calm_source (calm.0, unfailed) none;
    }

pub returns-clause-did : goal.returns-clause-did
returns-clause-did g c form is = c.console_on_file-ended.ensures.shown form is c.close.ensures
