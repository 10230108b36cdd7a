pub mod EnvelopesBack
pub mod OutlinesBack
pub mod SoundBack
pub mod ClustersBack
pub mod FilesBack
pub mod HeadersBack
pub mod ColumnsListed
