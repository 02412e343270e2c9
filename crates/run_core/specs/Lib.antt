-- of conversion and cert_parser, re-exported
pub use Rattle.conversion.specs.Answering
pub use Rattle.conversion.specs.Writing
pub use Rattle.conversion.specs.declared.text as Writers
pub use Rattle.cert_parser.specs.Reading
pub use Rattle.cert_parser.specs.declared.read as Readers
pub mod Run
pub mod Laws
pub mod Commands
pub mod Works
pub mod Checking
pub mod Upgrading
